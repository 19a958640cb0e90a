-- What replaying a log gives.
use Rattle.std.specs.Prelude.{◌≡◌, ℕ, ◌+◌, ◌%◌, ◌^◌, ◌≤◌, List, [], ◌∷◌, ◌++◌, length, map, Option, None, Some, ◌⊎◌}
use Rattle.bl_site.specs.Disk.{Folder}
use Rattle.bl_log.specs.Log.{records, placed_records, ending}
use Rattle.bl_entry.specs.Batches.{Batch}
use Rattle.bl_entry.specs.Records.{batches_of}
use Rattle.bl_entry.specs.declared.key.Entry.{Entry}
use Rattle.bl_entry.specs.Written.{entries_of}
use Rattle.bl_entry.specs.declared.batch.Operation.{Operation}
use Rattle.bl_records.specs.FileReading.{FileReading, HasFound}
use Rattle.bl_wal.specs.declared.batches.LogEnd.{LogEnd}
use Rattle.bl_wal.specs.declared.batches.NextBatch.{NextBatch}
use Rattle.bl_wal.specs.declared.batches.NextBatch.TheVariants.{Batch as Next, End}
use Rattle.bl_wal.specs.Held.{Batches}
use Rattle.bl_wal.specs.LogFile.{log_name}

-- each record of the bytes is a batch that begins behind the last sequence; these are the entries, and the last sequence behind them
pub record Replays (bytes : List ℕ) (before : ℕ) (entries : List Entry) (last : ℕ) : Type 0 where
  pub batches : List Batch
  pub are : batches_of (records bytes) before ≡ Some (batches, last)
  pub entries_are : entries ≡ entries_of batches

-- the log of this number has these entries
pub record HasEntries (folder : Folder) (number before : ℕ) (entries : List Entry) (last : ℕ) : Type 0 where
  pub bytes : List ℕ
  pub there : folder (log_name number) ≡ Some bytes
  pub replays : Replays bytes before entries last

-- the reading of the log of this number ends at this place, modulo 2 ^ 64, for this cause
pub record EndsAt (folder : Folder) (number : ℕ) (end : LogEnd) : Type 0 where
  pub bytes : List ℕ
  pub there : folder (log_name number) ≡ Some bytes
  pub place_is : end.place ≡ (ending bytes).0 % 2 ^ 64
  pub cause_is : end.cause ≡ (ending bytes).1

-- a record that is no batch, or does not begin behind the last sequence, is the first such; the place is the one behind it, modulo 2 ^ 64
pub record BreaksOff (bytes : List ℕ) (before place : ℕ) : Type 0 where
  pub passed : List (List ℕ × ℕ)
  pub payload : List ℕ
  pub behind : ℕ
  pub rest : List (List ℕ × ℕ)
  pub split : placed_records bytes ≡ passed ++ ((payload, behind) ∷ rest)
  pub batches : List Batch
  pub last : ℕ
  pub are : batches_of (map (λ r. r.0) passed) before ≡ Some (batches, last)
  pub stops : batches_of (payload ∷ []) last ≡ None
  pub place_is : place ≡ behind % 2 ^ 64

-- the file is not there, or breaks off
abbrev pub BreaksOffAt : Option (List ℕ) → ℕ → ℕ → Type 0
BreaksOffAt file before place = ((file ≡ None) × (place ≡ 0)) ⊎ ((bytes : List ℕ) × (file ≡ Some bytes) × BreaksOff bytes before place)

-- so it is with the log of this number
abbrev pub IsTorn : Folder → ℕ → ℕ → ℕ → Type 0
IsTorn folder number before place = BreaksOffAt (folder (log_name number)) before place

-- ---- batch by batch

-- the reader of a log's records, and the last sequence
pub record BatchReading : Type 0 where
  pub records : FileReading
  pub last : ℕ

-- The reader has found the records of these batches in the file, the first of which begins behind the sequence `before`.
pub record HasReplayed (file : Option (List ℕ)) (before : ℕ) (batches : Batches) (reader : BatchReading) : Type 0 where
  pub found : List (List ℕ × ℕ)
  pub has : HasFound file found reader.records
  pub are : batches_of (map (λ r. r.0) found) before ≡ Some (batches, reader.last)

-- the file is there, its records are these batches, and its reading ends here, at a place modulo 2 ^ 64
pub record EndsBehind (file : Option (List ℕ)) (before : ℕ) (batches : Batches) (last : ℕ) (end : LogEnd) : Type 0 where
  pub bytes : List ℕ
  pub there : file ≡ Some bytes
  pub are : batches_of (records bytes) before ≡ Some (batches, last)
  pub place_is : end.place ≡ (ending bytes).0 % 2 ^ 64
  pub cause_is : end.cause ≡ (ending bytes).1

-- behind these batches stands one more, or none
abbrev pub Answers : NextBatch → Option (List ℕ) → ℕ → Batches → BatchReading → Type 0
Answers (Next first operations) file before batches reader = HasReplayed file before (batches ++ record { first = first; operations = operations } ∷ []) reader
Answers (End end) file before batches reader = EndsBehind file before batches reader.last end

-- A batch begins behind the last sequence, its operations take the next ones, and these are in bounds.
pub record IsNext (first : ℕ) (operations : List Operation) (last last_after : ℕ) : Type 0 where
  pub first_is : first ≡ last + 1
  pub last_is : last_after ≡ last + length operations
  pub bounds : 1 ≤ length operations → first + length operations ≤ 2 ^ 56

abbrev pub Follows : NextBatch → ℕ → ℕ → Type 0
Follows (Next first operations) last last_after = IsNext first operations last last_after
Follows (End end) last last_after = last_after ≡ last

-- a record is taken as a batch behind the last sequence, or it is none
abbrev pub Taken : Option (ℕ × List Operation) → List ℕ → ℕ → ℕ → Type 0
Taken (Some (first, operations)) payload last last_after =
    (batches_of (payload ∷ []) last ≡ Some (record { first = first; operations = operations } ∷ [], last_after)) × IsNext first operations last last_after
Taken None payload last last_after = batches_of (payload ∷ []) last ≡ None
