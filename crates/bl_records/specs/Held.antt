-- The records that a file holds on the disk, and what a power cut leaves of them.
use Rattle.std.specs.Prelude.{◌≡◌, ◌⊎◌, ℕ, ◌+◌, ◌%◌, ◌≤◌, true, false, List, [], ◌∷◌, ◌++◌, length, take, Some, Result, Ok, Err}
use Rattle.bl_site.specs.Disk.{Name, Disk, File, Folder}
use Rattle.bl_log.specs.Log.{records}
use Rattle.bl_log.specs.Layout.{written}
use Rattle.bl_records.specs.WrittenFile.{WrittenFile}
use Rattle.bl_records.specs.declared.error.RecordErr.{RecordErr}
use Rattle.bl_records.specs.declared.error.RecordErr.TheVariants.{Disk as DiskFailed, OutOfMemory}

-- What is written of a file are these records' frames, of which the first so many are synced.
pub record HasWritten (file : File) (payloads : List (List ℕ)) (synced : ℕ) : Type 0 where
  pub within : synced ≤ length payloads
  pub front : file.front ≡ written 0 (take synced payloads)
  pub all : file.front ++ file.handed ≡ written 0 payloads

-- So it is with the file of this name. While no call of it has failed, it reads as it is written, and the next record goes to its end.
pub record HoldsRecords (disk : Disk) (writer : WrittenFile) (payloads : List (List ℕ)) (synced : ℕ) : Type 0 where
  pub file : File
  pub there : disk writer.name ≡ Some file
  pub within : synced ≤ length payloads
  pub front : file.front ≡ written 0 (take synced payloads)
  pub all : file.front ++ file.handed ≡ written 0 payloads
  pub reads : writer.failed ≡ false → file.read ≡ written 0 payloads
  pub place : writer.failed ≡ false → writer.place ≡ length (written 0 payloads) % 32768

-- after an append: one record more, unless memory ran out
abbrev pub HoldsOneMore : Result (Unit {0}) RecordErr → Disk → WrittenFile → List (List ℕ) → List ℕ → ℕ → Type 0
HoldsOneMore (Ok x) disk writer payloads payload synced = HoldsRecords disk writer (payloads ++ payload ∷ []) synced
HoldsOneMore (Err DiskFailed) disk writer payloads payload synced = HoldsRecords disk writer (payloads ++ payload ∷ []) synced
HoldsOneMore (Err OutOfMemory) disk writer payloads payload synced = HoldsRecords disk writer payloads synced

-- after a sync: the same records, all of them synced at Ok
abbrev pub HoldsAllSynced : Result (Unit {0}) RecordErr → Disk → WrittenFile → List (List ℕ) → ℕ → Type 0
HoldsAllSynced (Ok x) disk writer payloads synced = HoldsRecords disk writer payloads (length payloads)
HoldsAllSynced (Err e) disk writer payloads synced = HoldsRecords disk writer payloads synced

-- after an append and a sync: one record more, synced at Ok; where memory ran out, perhaps not
abbrev pub HoldsOneMoreSynced : Result (Unit {0}) RecordErr → Disk → WrittenFile → List (List ℕ) → List ℕ → ℕ → Type 0
HoldsOneMoreSynced (Ok x) disk writer payloads payload synced = HoldsRecords disk writer (payloads ++ payload ∷ []) (length payloads + 1)
HoldsOneMoreSynced (Err DiskFailed) disk writer payloads payload synced = HoldsRecords disk writer (payloads ++ payload ∷ []) synced
HoldsOneMoreSynced (Err OutOfMemory) disk writer payloads payload synced =
    HoldsRecords disk writer payloads synced ⊎ ((writer.failed ≡ true) × HoldsRecords disk writer (payloads ++ payload ∷ []) synced)

-- the bytes read as the first of these records, at least so many of them
pub record ReadAsFirst (bytes : List ℕ) (payloads : List (List ℕ)) (least : ℕ) : Type 0 where
  pub count : ℕ
  pub at_least : least ≤ count
  pub at_most : count ≤ length payloads
  pub reads : records bytes ≡ take count payloads

-- the file of this name reads as these records
pub record ReadsAs (folder : Folder) (name : Name) (payloads : List (List ℕ)) : Type 0 where
  pub bytes : List ℕ
  pub there : folder name ≡ Some bytes
  pub reads : records bytes ≡ payloads

-- it reads as the first of them, at least so many
pub record ReadsFirst (folder : Folder) (name : Name) (payloads : List (List ℕ)) (least : ℕ) : Type 0 where
  pub bytes : List ℕ
  pub there : folder name ≡ Some bytes
  pub first : ReadAsFirst bytes payloads least
