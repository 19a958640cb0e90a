-- The batches that a log holds on the disk, and what a power cut leaves of them.
use Rattle.std.specs.Prelude.{◌≡◌, ℕ, ◌≤◌, List, [], ◌∷◌, ◌++◌, length, map, take, Some, Result, Ok, Err}
use Rattle.bl_site.specs.Disk.{Disk, Folder}
use Rattle.bl_entry.specs.Batches.{Batch, batch_bytes}
use Rattle.bl_entry.specs.Reading.{read_batch}
use Rattle.bl_log.specs.Log.{records}
use Rattle.bl_log.specs.Layout.{written}
use Rattle.bl_records.specs.Held.{HoldsRecords}
use Rattle.bl_wal.specs.LogFile.{LogFile, log_name, file_of}
use Rattle.bl_wal.specs.declared.error.WalErr.{WalErr}
use Rattle.bl_wal.specs.declared.error.WalErr.TheVariants.{Disk as DiskFailed, Corrupt, OutOfMemory}

-- batches in the order of a log
abbrev pub Batches : Type 0
Batches = List Batch

-- the record of a batch
abbrev pub record_of : Batch → List ℕ
record_of b = batch_bytes b.first b.operations

-- it is read as this batch
abbrev pub IsReadBack : Batch → Type 0
IsReadBack b = read_batch (record_of b) ≡ Ok b

-- a log of these batches, from its beginning on
abbrev pub log_of : Batches → List ℕ
log_of batches = written 0 (map record_of batches)

-- What is written of the log are these batches, of which the first so many are synced. While no call of it has failed, it reads as it is written, and the next record goes to its end.
abbrev pub HoldsBatches : Disk → LogFile → Batches → ℕ → Type 0
HoldsBatches disk log batches synced = HoldsRecords disk (file_of log) (map record_of batches) synced

-- after an append: one batch more, unless memory ran out
abbrev pub HoldsOneMore : Result (Unit {0}) WalErr → Disk → LogFile → Batches → Batch → ℕ → Type 0
HoldsOneMore (Ok x) disk log batches b synced = HoldsBatches disk log (batches ++ b ∷ []) synced
HoldsOneMore (Err DiskFailed) disk log batches b synced = HoldsBatches disk log (batches ++ b ∷ []) synced
HoldsOneMore (Err OutOfMemory) disk log batches b synced = HoldsBatches disk log batches synced
HoldsOneMore (Err (Corrupt name place)) disk log batches b synced = ⊥

-- after a sync: the same batches, all of them synced at Ok
abbrev pub HoldsAllSynced : Result (Unit {0}) WalErr → Disk → LogFile → Batches → ℕ → Type 0
HoldsAllSynced (Ok x) disk log batches synced = HoldsBatches disk log batches (length batches)
HoldsAllSynced (Err e) disk log batches synced = HoldsBatches disk log batches synced

-- the log of this number reads as the first of these batches, at least so many of them
pub record ReadsFirst (folder : Folder) (number : ℕ) (batches : Batches) (least : ℕ) : Type 0 where
  pub bytes : List ℕ
  pub there : folder (log_name number) ≡ Some bytes
  pub count : ℕ
  pub at_least : least ≤ count
  pub at_most : count ≤ length batches
  pub reads : records bytes ≡ map record_of (take count batches)
