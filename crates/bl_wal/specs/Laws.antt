-- What logs of batches read as, also once the power was cut.
use Rattle.std.specs.Prelude.{◌≡◌, ℕ, ◌+◌, List, [], ◌∷◌, ◌++◌, length, map, take, Some}
use Rattle.bl_site.specs.Disk.{Disk, Cut, IsCut}
use Rattle.bl_names.specs.Names.{IsNumber}
use Rattle.bl_log.specs.Log.{records}
use Rattle.bl_entry.specs.Batches.{Batch}
use Rattle.bl_entry.specs.Records.{batches_of}
use Rattle.bl_wal.specs.LogFile.{LogFile, log_name}
use Rattle.bl_wal.specs.Held.{Batches, IsReadBack, record_of, log_of, HoldsBatches, ReadsFirst}
use Rattle.bl_records.specs.Chance.{NoChanceMatch}

-- A cut leaves of a log the first of its batches, at least the synced ones.
abbrev pub CutLogsReadAsFronts : Type 0
CutLogsReadAsFronts = (disk : Disk) (log : LogFile) (batches : Batches) (synced : ℕ) (told : List ℕ) (c : Cut)
    → IsNumber log.number → HoldsBatches disk log batches synced → IsCut disk told c → NoChanceMatch c.folder c.written
    → ReadsFirst c.folder log.number batches synced

-- It leaves a synced log as it was written.
abbrev pub SyncedLogsAreLeft : Type 0
SyncedLogsAreLeft = (disk : Disk) (log : LogFile) (batches : Batches) (told : List ℕ) (c : Cut)
    → HoldsBatches disk log batches (length batches) → IsCut disk told c → c.folder (log_name log.number) ≡ Some (log_of batches)

-- A log reads as its batches.
abbrev pub LogsAreRead : Type 0
LogsAreRead = (batches : Batches) → records (log_of batches) ≡ map record_of batches

-- The first records are the first batches.
abbrev pub FrontsAreRead : Type 0
FrontsAreRead = (payloads : List (List ℕ)) (before last count : ℕ) (batches : Batches) → batches_of payloads before ≡ Some (batches, last)
    → (between : ℕ) × (batches_of (take count payloads) before ≡ Some (take count batches, between))

-- A batch that begins behind the last sequence is the next one.
abbrev pub NextBatchIsRead : Type 0
NextBatchIsRead = (payloads : List (List ℕ)) (before last : ℕ) (batches : Batches) (b : Batch) → batches_of payloads before ≡ Some (batches, last)
    → IsReadBack b → b.first ≡ last + 1 → batches_of (payloads ++ record_of b ∷ []) before ≡ Some (batches ++ b ∷ [], last + length b.operations)
