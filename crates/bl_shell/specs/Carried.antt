-- What the shell keeps between two pieces of its script.
use Rattle.std.specs.Prelude.{◌≡◌, ◌≢◌, ◌⊎◌, ℕ, ◌+◌, ◌^◌, ◌<◌, ◌≤◌, List, [], ◌∷◌, ◌++◌, length, map, take, sum_by, true, false, EachIndex, slice_index, if◌then◌else◌}
use Rattle.std.specs.FinMap.{empty}
use Rattle.bl_site.specs.Disk.{Name, Folder, Disk, Cut, IsCut, folder_of}
use Rattle.bl_site.specs.Calls.{LeavesOnly}
use Rattle.bl_names.specs.Names.{IsNumber}
use Rattle.bl_entry.specs.Batches.{Batch}
use Rattle.bl_entry.specs.Revisions.{Map}
use Rattle.bl_script.specs.declared.command.Command.TheVariants as command
use Rattle.bl_script.specs.declared.command.Parsed.{Parsed}
use Rattle.bl_script.specs.declared.command.Parsed.TheVariants.{Go}
use Rattle.bl_script.specs.Lines.{lines_in, whole_lines_in}
use Rattle.bl_script.specs.Parsing.{parsed}
use Rattle.bl_script.specs.Printing.{ok_line}
use Rattle.bl_wal.specs.LogFile.{log_name}
use Rattle.bl_records.specs.Chance.{NoChanceMatch}
use Rattle.bl_logstore.specs.Cuts.{AreLeftWhole}
use Rattle.bl_logstore.specs.Folders.{Stands}
use Rattle.bl_logstore.specs.Logs.{after_batches}
use Rattle.bl_logstore.specs.Stored.{Stored, Carries}
use Rattle.bl_shell.specs.declared.lines.LineInHand.{LineInHand}
use Rattle.bl_shell.specs.Machine.{State, Write, Line, Step, Runs, IsHistory, orders, orders_of, reply_of, writes_of, told_by, written_by, operations_in, numbered, reopens, reopens_in, Start}
use Rattle.bl_shell.specs.Synced.{syncs, before_sync, CutOf}

abbrev pub state_of : Stored → State
state_of store = record { now = store.now }

-- the line in hand is kept whole, or it is too long whatever follows
pub record Holds (line : LineInHand) (front : List ℕ) : Type 0 where
  pub kept : line.long ≡ false → line.bytes.items ≡ front
  pub long : line.long ≡ true → 67108865 < length front

-- all files but the logs numbered from here on are as they were
abbrev pub Keeps : ℕ → Folder → Folder → Type 0
Keeps first old new = (name : Name) → ((number : ℕ) → first ≤ number → IsNumber number → name ≢ log_name number) → new name ≡ old name

-- A store that can be used stands on the disk, with these batches, at least so many of which every cut holds.
pub record IsServable (store : Stored) (batches : List Batch) (least : ℕ) (disk : Disk) : Type 0 where
  pub usable : store.broken ≡ false
  pub whole : store.log.failed ≡ false
  pub older : List Batch
  pub own : List Batch
  pub synced : ℕ
  pub carries : Carries store older own synced disk
  pub all : older ++ own ≡ batches
  pub at_least : least ≤ length older + synced

-- a front of these bytes was told
pub record TellsFront (bytes told told_after : List ℕ) : Type 0 where
  pub front : List ℕ
  pub rest : List ℕ
  pub whole : front ++ rest ≡ bytes
  pub told_is : told_after ≡ told ++ front

-- no name call is in doubt, and every cut since the start leaves what has P
pub record Steady {D : Type 0} (certain : D → Type 0) (clock : D → ℕ) (left_since : D → ℕ → Cut → Type 0) (start now : D) (P : Cut → Type 0) : Type 0 where
  pub certain_now : certain now
  pub leaves : LeavesOnly clock left_since start now P

-- the folder stands for the first of these batches, at least so many
pub record StandsFirst (folder : Folder) (batches : List Batch) (least : ℕ) : Type 0 where
  pub count : ℕ
  pub at_least : least ≤ count
  pub at_most : count ≤ length batches
  pub last : ℕ
  pub stands : Stands folder (take count batches) last

-- A cut while this is told, and the disk stays.
pub record CutTelling (disk : Disk) (reply told : List ℕ) (c : Cut) : Type 0 where
  pub tells : TellsFront reply told c.told
  pub is_cut : IsCut disk c.told c

-- A cut while an order is obeyed: a front of its reply was told, and older logs are left whole. The folder stands for the first of the
-- batches before it and of what it writes; once the whole reply of one that syncs was told, for all those before it.
pub record CutIn (order : Parsed) (old : Stored) (batches : List Batch) (least : ℕ) (told : List ℕ) (c : Cut) : Type 0 where
  pub tells : TellsFront (reply_of order old.now) told c.told
  pub whole : AreLeftWhole c
  pub stands : NoChanceMatch c.folder c.written → StandsFirst c.folder (batches ++ numbered (old.last + 1) (writes_of order)) least
  pub synced : NoChanceMatch c.folder c.written → syncs order ≡ true → tells.rest ≡ [] → StandsFirst c.folder (batches ++ numbered (old.last + 1) (writes_of order)) (length batches)

-- An order was obeyed: a line of the history goes from the old state to the new, and what it wrote is on the disk.
pub record Obeyed (order : Parsed) (old new : Stored) (disk disk_after : Disk) (told told_after : List ℕ) : Type 0 where
  pub line : Line
  pub ordered : line.order ≡ order
  pub step : Step (state_of old) line (state_of new)
  pub told_is : told_after ≡ told ++ line.told
  pub stays : (batches : List Batch) (least : ℕ) → IsServable old batches least disk → IsServable new (batches ++ numbered (old.last + 1) line.wrote) (if syncs order then length batches else least) disk_after
  pub last_is : new.last ≡ old.last + operations_in line.wrote
  pub number_is : new.log.number ≡ old.log.number + reopens order
  pub keeps : Keeps old.log.number (folder_of disk) (folder_of disk_after)

-- the order writes these operations
pub record IsWrite (order : Parsed) (operations : Write) : Type 0 where
  pub writes : writes_of order ≡ operations ∷ []
  pub tells : (m : Map) → reply_of order m ≡ ok_line
  pub opens : reopens order ≡ 0
  pub no_sync : syncs order ≡ false

-- the order only tells this
pub record IsTold (order : Parsed) (m : Map) (told : List ℕ) : Type 0 where
  pub writes : writes_of order ≡ []
  pub tells : reply_of order m ≡ told
  pub opens : reopens order ≡ 0
  pub no_sync : syncs order ≡ false

-- An order would pass a limit, and the number that is told of it: the last sequence, or the number of a file that cannot be.
abbrev pub Passes : Parsed → (last number limit : ℕ) → Type 0
Passes order last number limit =
    ((operations : Write) × ((writes_of order ≡ operations ∷ []) × (limit ≡ last) × (2 ^ 56 ≤ last + length operations)))
    ⊎ ((order ≡ Go command.Reopen) × (number + 1 ≡ 10 ^ 15) × (limit ≡ 10 ^ 15))

-- how many operations some batches have
unfoldable pub operations_of : List Batch → ℕ
operations_of batches = sum_by (λ b. length b.operations) batches

-- the batches found make the map that a run began with, and have the sequences up to its last
pub record IsMade (began : Start) : Type 0 where
  pub now_is : began.now ≡ after_batches began.batches empty
  pub last_is : began.last ≡ operations_of began.batches

-- the order passes no limit
pub record HasRoom (order : Parsed) (store : Stored) : Type 0 where
  pub sequences : store.last + operations_in (writes_of order) < 2 ^ 56
  pub number : store.log.number + reopens order < 10 ^ 15

-- before the first byte of the script
pub record StandsAtStart (began : Start) (folder : Folder) (store : Stored) (disk : Disk) : Type 0 where
  pub stays : IsServable store began.batches (length began.batches) disk
  pub now_is : store.now ≡ began.now
  pub made : IsMade began
  pub last_is : store.last ≡ began.last
  pub number_is : store.log.number ≡ began.number
  pub keeps : Keeps began.number folder (folder_of disk)

-- After these bytes of the script, of which the line in hand has a front of the next line, all is as the machine has it, and so was it at every cut.
pub record Carried (began : Start) (folder : Folder) (told0 script : List ℕ) (store : Stored) (line : LineInHand) (disk : Disk) (told : List ℕ) (steady : (Cut → Type 0) → Type 0) : Type 0 where
  pub history : List Line
  pub front : List ℕ
  pub held : Holds line front
  pub whole : (more : List ℕ) → map parsed (whole_lines_in [] (script ++ more)) ≡ orders_of history ++ map parsed (whole_lines_in front more)
  pub cut : (more : List ℕ) → map parsed (lines_in [] (script ++ more)) ≡ orders_of history ++ map parsed (lines_in front more)
  pub runs : Runs (record { now = began.now }) history (state_of store)
  pub told_is : told ≡ told0 ++ told_by history
  pub stays : IsServable store (began.batches ++ numbered (began.last + 1) (written_by history)) (length began.batches + before_sync history) disk
  pub made : IsMade began
  pub cuts : steady (CutOf began (orders_of history) told0)
  pub last_is : store.last ≡ began.last + operations_in (written_by history)
  pub number_is : store.log.number ≡ began.number + reopens_in history
  pub keeps : Keeps began.number folder (folder_of disk)

-- the whole script has run
pub record Finished (began : Start) (folder : Folder) (script told0 : List ℕ) (store : Stored) (disk : Disk) (told : List ℕ) (steady : (Cut → Type 0) → Type 0) : Type 0 where
  pub history : List Line
  pub is_history : IsHistory began.now (orders script) history (state_of store)
  pub told_is : told ≡ told0 ++ told_by history
  pub stays : IsServable store (began.batches ++ numbered (began.last + 1) (written_by history)) (length began.batches + before_sync history) disk
  pub made : IsMade began
  pub cuts : steady (CutOf began (orders_of history) told0)
  pub last_is : store.last ≡ began.last + operations_in (written_by history)
  pub number_is : store.log.number ≡ began.number + reopens_in history
  pub keeps : Keeps began.number folder (folder_of disk)

-- no line ends in these bytes
abbrev pub NoLineEnd : List ℕ → Type 0
NoLineEnd bytes = EachIndex bytes (λ k. slice_index bytes k ≢ 10)
