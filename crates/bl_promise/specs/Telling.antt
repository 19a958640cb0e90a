-- What a run has told, and the folder that it leaves.
use Rattle.std.specs.Prelude.{◌≡◌, ◌⊎◌, ℕ, ◌+◌, ◌*◌, ◌^◌, ◌<◌, ◌≤◌, List, [], ◌∷◌, ◌++◌, length, false, drop, sum_by}
use Rattle.bl_site.specs.Disk.{Name, Folder, Cut, MayLeave}
use Rattle.bl_build.specs.Restoring.{Restored}
use Rattle.bl_entry.specs.Batches.{Batch}
use Rattle.bl_folder.specs.Live.{IsLive}
use Rattle.bl_folder.specs.Logs.{HaveBatches}
use Rattle.bl_folder.specs.Settled.{IsSettled, NeededAreSynced}
use Rattle.bl_folder.specs.Stands.{IsSoundFolder, Stands}
use Rattle.bl_open.specs.Recovering.{IsFull, IsRefused}
use Rattle.bl_open.specs.declared.error.OpenErr.{OpenErr}
use Rattle.bl_open.specs.declared.error.OpenErr.TheVariants as opening
use Rattle.bl_script.specs.declared.command.Parsed.{Parsed}
use Rattle.bl_machine.specs.Writes.{Write, bytes_of, operations_in}
use Rattle.bl_machine.specs.State.{State}
use Rattle.bl_machine.specs.Step.{Line, writes_of}
use Rattle.bl_machine.specs.History.{orders, told_by, whole_orders, written_by}
use Rattle.bl_machine.specs.Synced.{whole_within}
use Rattle.bl_promise.specs.Start.{FrontOf, HistoryOf, IsFirstOf, Start}
use Rattle.bl_promise.specs.Cuts.{CutWith, corrupt_line, differ_line, full_line}
use Rattle.bl_promise.specs.Run.{Run, folder, folder_after}

-- a front of these bytes was told
pub record TellsFront (bytes told told_after : List ℕ) : Type 0 where
  pub front : List ℕ
  pub rest : List ℕ
  pub whole : front ++ rest ≡ bytes
  pub told_is : told_after ≡ told ++ front

-- the last sequence after these lines
abbrev pub last_after : Start → List Line → ℕ
last_after began history = began.last + operations_in (written_by history)

-- There was a sequence for each operation of these lines.
abbrev pub Fits : Start → List Line → Type 0
Fits began history = last_after began history < 2 ^ 56

-- ---- the folder left

-- It stands for the state's map, and its version has the state's files.
pub record LeavesState (folder : Folder) (s : State) : Type 0 where
  pub manifest : ℕ
  pub live : Restored
  pub is_live : IsLive folder manifest live
  pub stands : Stands folder s.now
  pub files : live.version ≡ s.listing

-- The needed logs have these batches. Those behind the first so many, which a waiting memory has, sum to the bytes that the state counts; where no memory waits there are no others.
pub record LeavesBatches (folder : Folder) (live : Restored) (s : State) : Type 0 where
  pub batches : List Batch
  pub last : ℕ
  pub have : HaveBatches folder live.standing.log_number live.standing.last_sequence batches last
  pub waiting : ℕ
  pub none : s.waits ≡ false → waiting ≡ 0
  pub bytes : sum_by (λ b. bytes_of b.operations) (drop waiting batches) ≡ s.buffered

-- No needed file has an unsynced byte and no name call is in doubt, so every cut from now on leaves the map, whatever checksum may match by chance; and the logs have what the state counts.
pub record IsKept (run : Run) (manifest : ℕ) (live : Restored) (last : State) : Type 0 where
  pub certain : run.certain_after
  pub synced : NeededAreSynced run.disk_after manifest live
  pub stands : (c : Cut) → MayLeave run.may_be_after run.told_after c → Stands c.folder last.now
  pub batches : LeavesBatches (folder_after run) live last

-- From a settled disk, each cut at a moment of the run left what one before its barrier might have left, or the map after a prefix of this history's writes.
abbrev pub CutsAreOf : Run → Start → List Line → Type 0
CutsAreOf run began history = IsSettled run.disk → run.EachCut (CutWith (folder run) run.may_be began history run.told)

-- ---- replies

-- These orders were obeyed: of one history, its replies were told, the folder left stands for its last map and has its last files, and each cut left the map after a prefix of its writes.
pub record HasObeyed (run : Run) (given : List Parsed) : Type 0 where
  pub of : HistoryOf (folder run) run.words given
  pub told_is : run.told_after ≡ run.told ++ told_by of.history
  pub leaves : LeavesState (folder_after run) of.last
  pub cuts : CutsAreOf run of.began of.history
  pub fits : Fits of.began of.history

-- The whole script was obeyed and, from a settled disk, the last map is kept.
pub record HasRun (run : Run) : Type 0 where
  pub obeyed : HasObeyed run (orders run.script)
  pub kept : IsSettled run.disk → IsKept run obeyed.leaves.manifest obeyed.leaves.live obeyed.of.last

-- Some bytes of the script were taken, more than 2^40 where it was too long, and the whole lines among them were obeyed.
pub record HasTaken (run : Run) (TooLong : Type 0) : Type 0 where
  pub taken : List ℕ
  pub rest : taken ++ run.left ≡ run.script
  pub over : TooLong → 2 ^ 40 < length taken
  pub obeyed : HasObeyed run (whole_orders taken)

-- A front of the replies to the first orders was told. The lines whose replies lie whole in it pass no limit of sequences.
pub record HasBegun (run : Run) : Type 0 where
  pub of : FrontOf (folder run) run.words (orders run.script)
  pub front : TellsFront (told_by of.history) run.told run.told_after
  pub cuts : CutsAreOf run of.began of.history
  pub fits : Fits of.began (whole_within (length front.front) of.history)

-- The telling of a line's reply failed: those to the lines before it were told, and a front of it, perhaps all. The line was obeyed all the same.
pub record HasFaltered (run : Run) : Type 0 where
  pub of : FrontOf (folder run) run.words (orders run.script)
  pub before : List Line
  pub line : Line
  pub lines_are : of.history ≡ before ++ line ∷ []
  pub front : TellsFront line.told (run.told ++ told_by before) run.told_after
  pub leaves : LeavesState (folder_after run) of.last
  pub cuts : CutsAreOf run of.began of.history
  pub fits : Fits of.began of.history

-- ---- a line that ends the run, behind some replies

-- it was told
pub record TellsEnd (run : Run) (Ends : (replies line : List ℕ) → Type 0) : Type 0 where
  pub replies : List ℕ
  pub line : List ℕ
  pub ends : Ends replies line
  pub told_is : run.told_after ≡ (run.told ++ replies) ++ line

-- a front of it was told
pub record TellsEndInPart (run : Run) (Ends : (replies line : List ℕ) → Type 0) : Type 0 where
  pub replies : List ℕ
  pub line : List ℕ
  pub ends : Ends replies line
  pub front : TellsFront line (run.told ++ replies) run.told_after

-- What the order writes would pass the greatest sequence, and the last sequence is told;
pub record PassesSequence (last : ℕ) (s : State) (order : Parsed) (limit : ℕ) : Type 0 where
  pub operations : Write
  pub writes : writes_of s order ≡ operations ∷ []
  pub past : 2 ^ 56 ≤ last + length operations
  pub limit_is : limit ≡ last

-- or no number for a file is left, after so many lines: from the first number on each line takes at most so many, by the entries that there may be.
pub record PassesNumber (folder : Folder) (began : Start) (history : List Line) (limit : ℕ) : Type 0 where
  pub number : ℕ
  pub first : IsFirstOf folder number
  pub past : 10 ^ 15 ≤ number + (length history + 2) * (6 * (began.entries + operations_in (written_by history)) + 2000003)
  pub limit_is : limit ≡ 10 ^ 15

-- The first of these orders, the one in hand, passes a limit, and none before it did;
pub record PassesIn (folder : Folder) (began : Start) (history : List Line) (s : State) (rest : List Parsed) (limit : ℕ) : Type 0 where
  pub order : Parsed
  pub more : List Parsed
  pub in_hand : rest ≡ order ∷ more
  pub fits : Fits began history
  pub passes : PassesSequence (last_after began history) s order limit ⊎ PassesNumber folder began history limit

-- or the run's opening would take more numbers than are left.
pub record PassesAtOpening (run : Run) (history : List Line) (limit : ℕ) : Type 0 where
  pub none : history ≡ []
  pub full : IsFull (folder run) run.words
  pub limit_is : limit ≡ 10 ^ 15

-- A limit is reached. The orders before the one in hand were obeyed, and that one is not accepted: neither the folder left nor a cut holds what it writes.
pub record EndsFull (run : Run) (replies line : List ℕ) : Type 0 where
  pub of : FrontOf (folder run) run.words (orders run.script)
  pub limit : ℕ
  pub passes : PassesAtOpening run of.history limit ⊎ PassesIn (folder run) of.began of.history of.last of.is_front.rest limit
  pub replies_are : replies ≡ told_by of.history
  pub line_is : line ≡ full_line limit
  pub stands : Stands (folder_after run) of.last.now
  pub cuts : CutsAreOf run of.began of.history

-- A given option is not the stored one. Nothing was obeyed, and the folder reads as it did.
pub record EndsDiffer (run : Run) (replies line : List ℕ) : Type 0 where
  pub option : ℕ
  pub stored : ℕ
  pub asked : ℕ
  pub refused : IsRefused (folder run) run.words (opening.Differ option stored asked)
  pub none : replies ≡ []
  pub line_is : line ≡ differ_line option stored asked
  pub same : folder_after run ≡ folder run

-- The opening is refused for this damage, and the folder reads as it did; or it is not refused, and the damage was met later.
abbrev pub IsDamageOf : Run → List ℕ → Name → ℕ → Type 0
IsDamageOf run replies name place =
    (IsRefused (folder run) run.words (opening.Corrupt name place) × (replies ≡ []) × (folder_after run ≡ folder run))
    ⊎ ((e : OpenErr) → IsRefused (folder run) run.words e → ⊥)

-- A file is damaged: so the folder was not sound.
pub record EndsCorrupt (run : Run) (replies line : List ℕ) : Type 0 where
  pub name : Name
  pub place : ℕ
  pub unsound : IsSoundFolder (folder run) → ⊥
  pub damage : IsDamageOf run replies name place
  pub line_is : line ≡ corrupt_line name place
