-- What an opening makes of the entries that the logs held: at most one table and its blob files, beside the files that were found.
use Rattle.std.specs.Prelude.{◌≡◌, ◌≢◌, ℕ, ◌+◌, ◌-◌, ◌^◌, ◌≤◌, List, [], ◌∷◌, length, None, Some, Ok}
use Rattle.std.specs.List.{range_with_len}
use Rattle.bl_site.specs.Disk.{Cut, Disk, Folder, Name}
use Rattle.bl_names.specs.declared.name.FileName.TheVariants.{Table, Blob}
use Rattle.bl_names.specs.Names.{IsNumber, name_of}
use Rattle.bl_entry.specs.declared.key.Entry.{Entry}
use Rattle.bl_entry.specs.Revisions.{Map, Revision}
use Rattle.bl_edit.specs.Options.{Values}
use Rattle.bl_edit.specs.declared.edit.Edit.{Edit}
use Rattle.bl_build.specs.declared.meta.Standing.{Standing}
use Rattle.bl_build.specs.Listing.{Listing, nothing}
use Rattle.bl_build.specs.Restoring.{Restored, restored_by}
use Rattle.bl_build.specs.Snapshots.{snapshot}
use Rattle.bl_build.specs.Versions.{IsVersion, apply}
use Rattle.bl_out.specs.Flushes.{Flushed}
use Rattle.bl_out.specs.Quiet.{IsCutBut}
use Rattle.bl_out.specs.States.{names_of}
use Rattle.bl_flush.specs.Flushing.{Flushes}
use Rattle.bl_flush.specs.Jobs.{next_of}
use Rattle.bl_wal.specs.LogFile.{log_name}
use Rattle.bl_folder.specs.Flushes.{IsBelow, IsMemoryOf, IsWhole, installed}
use Rattle.bl_folder.specs.Holding.{Holding}
use Rattle.bl_folder.specs.Live.{IsLive}
use Rattle.bl_folder.specs.Quiet.{NoneIsNeeded}
use Rattle.bl_folder.specs.Stands.{IsSound}
use Rattle.bl_open.specs.Found.{HasTables}
use Rattle.bl_open.specs.Steady.{Maps, HasFiles}
use Rattle.bl_open.specs.SteadyCalls.{IsAtRest}
use Rattle.bl_open.specs.SteadyCuts.{IsLeftFor, LeavesStanding}

-- ---- files whose numbers are drawn

-- the tables and the blob files of the numbers from one on up to below another
abbrev pub drawn : ℕ → ℕ → List Name
drawn from next = names_of (range_with_len from (next - from))

-- the name is that of no table and no blob file with a number from this one on
pub record IsOther (from : ℕ) (name : Name) : Type 0 where
  pub table : (n : ℕ) → IsNumber n → from ≤ n → name_of (Table n) ≢ name
  pub blob : (n : ℕ) → IsNumber n → from ≤ n → name_of (Blob n) ≢ name

-- every such name stands for what it stood for
abbrev pub KeepsOthers : ℕ → Disk → Disk → Type 0
KeepsOthers from old new = (name : Name) → IsOther from name → new name ≡ old name

-- Where the version has lower numbers alone, none of these files is needed.
abbrev pub DrawnAreUnneeded : Type 0
DrawnAreUnneeded = (folder : Folder) (from next manifest : ℕ) (live : Restored) → IsLive folder manifest live → 1 ≤ from → next ≤ 10 ^ 15 → IsBelow from live.version → NoneIsNeeded (drawn from next) manifest live

-- While no file changes but such, a disk that rests stays what was found,
abbrev pub OthersKeepRest : Type 0
OthersKeepRest = (from manifest : ℕ) (live : Restored) (m : Map) (old new : Disk) → IsBelow from live.version → KeepsOthers from old new
    → IsAtRest manifest live m old → IsAtRest manifest live m new

-- and a cut while these alone change leaves its map.
abbrev pub CutsBesideRest : Type 0
CutsBesideRest = (from next manifest : ℕ) (live : Restored) (m : Map) (disk : Disk) (told : List ℕ) (c : Cut) → 1 ≤ from → next ≤ 10 ^ 15 → IsBelow from live.version
    → IsAtRest manifest live m disk → IsCutBut (drawn from next) disk told c → LeavesStanding (IsLeftFor m) told c

-- For a flush of the memory the numbers from one on up to below another are drawn: one for each file that the edit adds.
pub record DrawsFor (options : Values) (memory : List Entry) (from next : ℕ) (e : Edit) : Type 0 where
  pub wanted : next ≡ next_of options [] from memory
  pub files : next ≡ from + (length e.added + length e.blobs)

-- ---- what stands behind the flush

-- What an opening has loaded: the tables and the blob files of the version are there, synced; the batches in the logs are in a memory; and all that is held makes the map. The version has numbers below this one alone, and no log has it or one above.
pub record IsLoaded (h : Holding) (m : Map) (memory : List Entry) (from : ℕ) (disk : Disk) : Type 0 where
  pub files : HasFiles h disk
  pub whole : IsWhole h
  pub found : List Revision
  pub sound : IsSound h found m
  pub memory_of : IsMemoryOf h.batches memory
  pub below : IsBelow from h.live.version
  pub logs : (n : ℕ) → IsNumber n → from ≤ n → disk (log_name n) ≡ None

-- what is held once all batches are flushed into these files, with a new log and this next file number
abbrev pub all_flushed : Holding → ℕ → ℕ → Flushed → Holding
all_flushed h log next files = installed h (length h.batches) log next files

-- the files of a flush of the memory are there, with drawn numbers, and no other file has changed
pub record HasFlushed (options : Values) (from drawn_from next : ℕ) (memory : List Entry) (old new : Disk) (e : Edit) : Type 0 where
  pub flushes : Flushes options drawn_from next [] memory new e
  pub above : from ≤ drawn_from
  pub others : KeepsOthers drawn_from old new

-- Behind a flush of it the tables and the blob files, with the new ones, alone make the map;
abbrev pub FlushedHaveTables : Type 0
FlushedHaveTables = (maps : Maps) (h : Holding) (m : Map) (memory : List Entry) (from drawn_from next log next_file : ℕ) (old new : Disk) (e : Edit) → 1 ≤ from → next ≤ 10 ^ 15 → from ≤ log → maps 0 ≡ m
    → IsLoaded h m memory from old → (f : HasFlushed h.live.standing.options from drawn_from next memory old new e) → IsVersion (all_flushed h log next_file f.flushes.files).live.version → HasTables maps log (all_flushed h log next_file f.flushes.files) new

-- the job's edit leads to them;
abbrev pub JobEditsApply : Type 0
JobEditsApply = (h : Holding) (m : Map) (memory : List Entry) (from drawn_from next log next_file : ℕ) (old new : Disk) (e : Edit) → 1 ≤ from → next ≤ 10 ^ 15
    → IsLoaded h m memory from old → (f : HasFlushed h.live.standing.options from drawn_from next memory old new e) → apply h.live.version e ≡ Ok (all_flushed h log next_file f.flushes.files).live.version

-- and its numbers are below the next.
abbrev pub FlushedAreBelow : Type 0
FlushedAreBelow = (h : Holding) (m : Map) (memory : List Entry) (from drawn_from next log next_file : ℕ) (old new : Disk) (e : Edit) → 1 ≤ from → drawn_from ≤ next → next ≤ 10 ^ 15
    → IsLoaded h m memory from old → (f : HasFlushed h.live.standing.options from drawn_from next memory old new e) → IsBelow next (all_flushed h log next_file f.flushes.files).live.version

-- A manifest of the one edit that makes a version of the empty one restores it, with what stands beside it.
abbrev pub SnapshotsRestore : Type 0
SnapshotsRestore = (version : Listing) (standing : Standing) → apply nothing (snapshot version standing) ≡ Ok version → standing.next_file ≤ 10 ^ 15
    → restored_by (snapshot version standing ∷ []) ≡ Some (record { version = version; standing = standing })
