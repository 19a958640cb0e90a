-- The logs of a folder, replayed into a memory table.
use Rattle.std.specs.Prelude.{◌≡◌, ℕ, ◌≤◌, Contains, List, ◌++◌, Some, IsSome}
use Rattle.std.specs.List.{AllByRecursion}
use Rattle.std.specs.List.Sorted.{IsStrictlySortedBy}
use Rattle.std.specs.Ordering.{nat_cmp}
use Rattle.bl_site.specs.Disk.{Folder}
use Rattle.bl_names.specs.Names.{IsNumber}
use Rattle.bl_log.specs.Log.{records}
use Rattle.bl_entry.specs.Batches.{Batch}
use Rattle.bl_entry.specs.Records.{batches_of}
use Rattle.bl_entry.specs.Written.{entries_of}
use Rattle.bl_entry.specs.declared.key.Entry.{Entry}
use Rattle.bl_memtab.specs.Filled.{Holds}
use Rattle.bl_wal.specs.LogFile.{log_name}
use Rattle.bl_folder.specs.Logs.{HaveBatches}
use Rattle.bl_folder.specs.Memories.{IsInBounds}

-- the logs of the folder from this number on have exactly these numbers, ascending
pub record AreLogsFrom (folder : Folder) (from : ℕ) (numbers : List ℕ) : Type 0 where
  pub ascend : IsStrictlySortedBy nat_cmp numbers
  pub each : AllByRecursion (λ n. (from ≤ n) × IsNumber n × IsSome (folder (log_name n))) numbers
  pub all : (n : ℕ) → from ≤ n → IsNumber n → IsSome (folder (log_name n)) → Contains numbers n

-- The memory has exactly the entries of some batches, none of a later sequence than this one.
pub record IsFilled (memory : List Entry) (last : ℕ) : Type 0 where
  pub batches : List Batch
  pub fit : AllByRecursion IsInBounds batches
  pub holds : Holds memory (entries_of batches) last

-- The log of this number is there, its records are batches behind a sequence, and their entries have joined those in the memory.
pub record HasReplayedLog (folder : Folder) (number before last : ℕ) (old new : List Entry) : Type 0 where
  pub bytes : List ℕ
  pub there : folder (log_name number) ≡ Some bytes
  pub batches : List Batch
  pub are : batches_of (records bytes) before ≡ Some (batches, last)
  pub fit : AllByRecursion IsInBounds batches
  pub holds : (written : List Entry) → Holds old written before → Holds new (written ++ entries_of batches) last

-- The records of the logs from this number on are batches behind a sequence, and the memory has exactly their entries.
pub record HasReplayedLogs (folder : Folder) (from before : ℕ) (memory : List Entry) (last : ℕ) : Type 0 where
  pub batches : List Batch
  pub have : HaveBatches folder from before batches last
  pub fit : AllByRecursion IsInBounds batches
  pub holds : Holds memory (entries_of batches) last
