-- What a run has told, and the folder that it leaves.
use Rattle.std.specs.Prelude.{◌≡◌, ◌⊎◌, ℕ, ◌+◌, ◌-◌, ◌^◌, List, [], ◌∷◌, ◌++◌, length, codes, decimal, IsSome, None, ◌<◌}
use Rattle.bl_site.specs.Disk.{Name, Folder}
use Rattle.bl_names.specs.Names.{IsNumber}
use Rattle.bl_entry.specs.Batches.{Batch}
use Rattle.bl_entry.specs.Revisions.{Map, revisions_of, IsMapAt}
use Rattle.bl_script.specs.declared.command.Parsed.{Parsed}
use Rattle.bl_wal.specs.LogFile.{log_name}
use Rattle.bl_logstore.specs.Folders.{Stands, IsNext}
use Rattle.bl_logstore.specs.Damage.{IsDamaged}
use Rattle.bl_shell.specs.Machine.{State, Line, IsHistory, Runs, orders, whole_orders, orders_of, told_by, written_by, operations_in, numbered, reopens_in, Start, Fits}
use Rattle.bl_shell.specs.Synced.{whole_within}
use Rattle.bl_shell.specs.Carried.{Keeps, TellsFront, Passes}

-- A run begins on a folder of logs, whose batches make the map. Its first log is the next one.
pub record IsStartOf (folder : Folder) (began : Start) : Type 0 where
  pub stands : Stands folder began.batches began.last
  pub map_is : IsMapAt (revisions_of began.batches) began.last began.now
  pub next : IsNext folder began.number

-- The folder left has logs of the batches found and, behind them, one batch for each write of these lines, and they make this map. The
-- log in use is the last of those made, one for each opening; all files but the logs made are as they were.
pub record LeavesLogs (folder folder_after : Folder) (began : Start) (history : List Line) (now : Map) : Type 0 where
  pub stands : Stands folder_after (began.batches ++ numbered (began.last + 1) (written_by history)) (began.last + operations_in (written_by history))
  pub map_is : IsMapAt (revisions_of (began.batches ++ numbered (began.last + 1) (written_by history))) (began.last + operations_in (written_by history)) now
  pub has_number : IsNumber (began.number + reopens_in history)
  pub in_use : IsSome (folder_after (log_name (began.number + reopens_in history)))
  pub newest : (number : ℕ) → began.number + reopens_in history < number → number < 10 ^ 15 → folder_after (log_name number) ≡ None
  pub keeps : Keeps began.number folder folder_after

-- The replies to the whole script were told, and the folder left stands for the last map.
pub record HasRun (folder folder_after : Folder) (script told told_after : List ℕ) : Type 0 where
  pub began : Start
  pub begins : IsStartOf folder began
  pub history : List Line
  pub last : State
  pub is_history : IsHistory began.now (orders script) history last
  pub told_is : told_after ≡ told ++ told_by history
  pub fits : Fits began history
  pub leaves : LeavesLogs folder folder_after began history last.now

-- The replies to all whole lines among the bytes taken were told. These lines pass no limit, and the folder left stands for the map after them.
pub record HasTaken (folder folder_after : Folder) (taken told told_after : List ℕ) : Type 0 where
  pub began : Start
  pub begins : IsStartOf folder began
  pub history : List Line
  pub last : State
  pub is_history : IsHistory began.now (whole_orders taken) history last
  pub told_is : told_after ≡ told ++ told_by history
  pub fits : Fits began history
  pub leaves : LeavesLogs folder folder_after began history last.now

-- A front of the replies to the script was told. The lines whose replies lie whole in it pass no limit.
pub record HasBegun (folder : Folder) (script told told_after : List ℕ) : Type 0 where
  pub began : Start
  pub begins : IsStartOf folder began
  pub history : List Line
  pub last : State
  pub is_history : IsHistory began.now (orders script) history last
  pub front : TellsFront (told_by history) told told_after
  pub fits : Fits began (whole_within (length front.front) history)

-- The telling of a line's reply failed: those to the lines before it were told, and a front of it, perhaps all. The line was obeyed all the same, and the folder left stands for the map after it.
pub record HasFaltered (folder folder_after : Folder) (script told told_after : List ℕ) : Type 0 where
  pub began : Start
  pub begins : IsStartOf folder began
  pub history : List Line
  pub line : Line
  pub rest : List Parsed
  pub last : State
  pub orders_are : orders script ≡ orders_of (history ++ line ∷ []) ++ rest
  pub runs : Runs (record { now = began.now }) (history ++ line ∷ []) last
  pub front : TellsFront line.told (told ++ told_by history) told_after
  pub fits : Fits began (history ++ line ∷ [])
  pub leaves : LeavesLogs folder folder_after began (history ++ line ∷ []) last.now

-- the lines that end a run
abbrev pub corrupt_line : Name → ℕ → List ℕ
corrupt_line name place = codes "error corrupt " ++ name ++ codes " " ++ decimal place ++ codes "\n"

abbrev pub full_line : ℕ → List ℕ
full_line number = codes "error full " ++ decimal number ++ codes "\n"

-- The line in hand is the first that would pass a limit: these are the replies to the lines before it, and the folder left stands for the map after them.
pub record PassesIn (folder folder_after : Folder) (script replies : List ℕ) (limit : ℕ) : Type 0 where
  pub began : Start
  pub begins : IsStartOf folder began
  pub history : List Line
  pub mid : State
  pub order : Parsed
  pub rest : List Parsed
  pub orders_are : orders script ≡ orders_of history ++ (order ∷ rest)
  pub runs : Runs (record { now = began.now }) history mid
  pub fits : Fits began history
  pub passes : Passes order (began.last + operations_in (written_by history)) (began.number + reopens_in history) limit
  pub replies_are : replies ≡ told_by history
  pub leaves : LeavesLogs folder folder_after began history mid.now

-- No number is left for a log as the folder is opened: it reads as it did, and stands for a map.
pub record HasNoNumber (folder folder_after : Folder) (replies : List ℕ) (limit : ℕ) : Type 0 where
  pub greatest : IsSome (folder (log_name (10 ^ 15 - 1)))
  pub batches : List Batch
  pub last : ℕ
  pub stands : Stands folder batches last
  pub same : folder_after ≡ folder
  pub none_told : replies ≡ []
  pub limit_is : limit ≡ 10 ^ 15

-- A limit is passed: as the folder is opened, or by the line in hand.
abbrev pub IsFull : Folder → Folder → List ℕ → List ℕ → ℕ → Type 0
IsFull folder folder_after script replies limit = HasNoNumber folder folder_after replies limit ⊎ PassesIn folder folder_after script replies limit

-- what a line that ends the run says, behind these replies; a damaged folder reads as it did
abbrev pub Ends : Folder → Folder → List ℕ → List ℕ → List ℕ → Type 0
Ends folder folder_after script replies line =
    ((name : Name) × ((place : ℕ) × (IsDamaged folder name place × (folder_after ≡ folder) × (replies ≡ []) × (line ≡ corrupt_line name place))))
    ⊎ ((limit : ℕ) × (IsFull folder folder_after script replies limit × (line ≡ full_line limit)))

-- a front of such a line was told, behind the replies
pub record HasEnded (folder folder_after : Folder) (script told told_after : List ℕ) : Type 0 where
  pub replies : List ℕ
  pub line : List ℕ
  pub ends : Ends folder folder_after script replies line
  pub front : TellsFront line (told ++ replies) told_after
