-- Laws of flushes.
use Rattle.std.specs.Prelude.{◌≡◌, ℕ, ◌+◌, ◌≤◌, List, ◌++◌, length, drop, Some, Ok}
use Rattle.std.specs.List.{AllByRecursion}
use Rattle.bl_site.specs.Disk.{Folder}
use Rattle.bl_log.specs.Log.{records}
use Rattle.bl_names.specs.declared.name.FileName.TheVariants.{Table, Blob}
use Rattle.bl_entry.specs.declared.key.Entry.{Entry}
use Rattle.bl_entry.specs.Batches.{Batch}
use Rattle.bl_entry.specs.Records.{batches_of}
use Rattle.bl_entry.specs.Revisions.{Map, Revision}
use Rattle.bl_build.specs.Versions.{apply}
use Rattle.bl_out.specs.Files.{file}
use Rattle.bl_out.specs.Flushes.{Flushed, HasFlush}
use Rattle.bl_folder.specs.Files.{log_bytes}
use Rattle.bl_folder.specs.Logs.{HaveBatches, log_records}
use Rattle.bl_folder.specs.Live.{IsLive}
use Rattle.bl_entry.specs.Items.{each_of}
use Rattle.bl_out.specs.Tables.{table_in}
use Rattle.bl_folder.specs.Holding.{Holding, Holds, IsSpelled, blob_in}
use Rattle.bl_folder.specs.Stands.{IsSound, StandsLive}
use Rattle.bl_folder.specs.Fronts.{StandsFirst, cut_to}
use Rattle.bl_folder.specs.Flushes.{IsFlushOf, IsWhole, KeepsFiles, KeepsMaps, edit_for, flushed_to, installed}

-- What a folder holds is whole.
abbrev pub HeldAreWhole : Type 0
HeldAreWhole = (folder : Folder) (manifest : ℕ) (h : Holding) → Holds folder manifest h → IsWhole h

-- The edit of a flush is never refused,
abbrev pub FlushesApply : Type 0
FlushesApply = (h : Holding) (count from log next : ℕ) (snapshots : List ℕ) (memory : List Entry) (f : Flushed) → IsWhole h → IsFlushOf h count from snapshots memory f
    → apply h.live.version (edit_for h count log next f) ≡ Ok (installed h count log next f).live.version

-- and leaves no file out.
abbrev pub FlushesKeepFiles : Type 0
FlushesKeepFiles = (h : Holding) (count from log next : ℕ) (snapshots : List ℕ) (memory : List Entry) (f : Flushed) → IsWhole h → IsFlushOf h count from snapshots memory f
    → KeepsFiles h (installed h count log next f)

-- What is held then is sound for the same map, and each snapshot of the job sees what it saw.
abbrev pub FlushesKeepMaps : Type 0
FlushesKeepMaps = (h : Holding) (found : List Revision) (m : Map) (count from log next : ℕ) (snapshots : List ℕ) (memory : List Entry) (f : Flushed)
    → IsWhole h → IsSound h found m → IsFlushOf h count from snapshots memory f
    → KeepsMaps snapshots (flushed_to count h) found (installed h count log next f) m

-- So it is with each front of the batches that remain.
abbrev pub FlushesKeepFronts : Type 0
FlushesKeepFronts = (h : Holding) (found : List Revision) (m : Map) (count from log next more : ℕ) (snapshots : List ℕ) (memory : List Entry) (f : Flushed)
    → IsWhole h → IsSound (cut_to (count + more) h) found m → IsFlushOf h count from snapshots memory f
    → KeepsMaps snapshots (flushed_to count h) found (cut_to more (installed h count log next f)) m

-- The tables and the blob files that are held are in the folder, as it reads.
pub record HasHeld (folder : Folder) (h : Holding) : Type 0 where
  pub tables : each_of (table_in folder) h.live.version.tables ≡ Some h.tables
  pub blobs : each_of (blob_in folder) h.live.version.blobs ≡ Some h.blobs
  pub spelled : AllByRecursion (IsSpelled folder) h.blobs

-- The new folder has the files of the flush and, as in the old one, those of the old version.
pub record HasBoth (old new : Folder) (h : Holding) (f : Flushed) : Type 0 where
  pub tables : AllByRecursion (λ t. file new (Table t.number) ≡ file old (Table t.number)) h.live.version.tables
  pub blobs : AllByRecursion (λ b. file new (Blob b.number) ≡ file old (Blob b.number)) h.live.version.blobs
  pub files : HasFlush new f

-- Such a folder has all files of what is installed, before any manifest says so.
abbrev pub FlushedAreThere : Type 0
FlushedAreThere = (old new : Folder) (h : Holding) (count from log next : ℕ) (snapshots : List ℕ) (memory : List Entry) (f : Flushed)
    → IsWhole h → HasHeld old h → IsFlushOf h count from snapshots memory f → HasBoth old new h f → HasHeld new (installed h count log next f)

-- The new folder has the files of the flush and, as in the old one, those of the old version, its live part is the one behind the edit, and its logs from the new log number on have the batches that remain.
pub record HasInstalled (old new : Folder) (manifest : ℕ) (h : Holding) (count log next : ℕ) (f : Flushed) : Type 0 where
  pub live : IsLive new manifest (installed h count log next f).live
  pub tables : AllByRecursion (λ t. file new (Table t.number) ≡ file old (Table t.number)) h.live.version.tables
  pub blobs : AllByRecursion (λ b. file new (Blob b.number) ≡ file old (Blob b.number)) h.live.version.blobs
  pub files : HasFlush new f
  pub batches : HaveBatches new log (flushed_to count h) (drop count h.batches) h.last

-- Such a folder holds what is installed,
abbrev pub FlushesAreHeld : Type 0
FlushesAreHeld = (old new : Folder) (manifest there : ℕ) (h : Holding) (count from log next : ℕ) (snapshots : List ℕ) (memory : List Entry) (f : Flushed)
    → Holds old manifest h → IsFlushOf h count from snapshots memory f → HasInstalled old new there h count log next f → Holds new there (installed h count log next f)

-- so it stands for the map of the old one,
abbrev pub FlushesStand : Type 0
FlushesStand = (old new : Folder) (manifest there : ℕ) (h : Holding) (found : List Revision) (m : Map) (count from log next : ℕ) (snapshots : List ℕ) (memory : List Entry) (f : Flushed)
    → Holds old manifest h → IsSound h found m → IsFlushOf h count from snapshots memory f → HasInstalled old new there h count log next f
    → StandsLive new m

-- and with each front of the batches that remain for the map that the old one stood for with these behind the flushed ones.
abbrev pub FlushesStandFirst : Type 0
FlushesStandFirst = (old new : Folder) (manifest there : ℕ) (h : Holding) (found : List Revision) (m : Map) (count from log next more : ℕ) (snapshots : List ℕ) (memory : List Entry) (f : Flushed)
    → Holds old manifest h → count + more ≤ length h.batches → IsSound (cut_to (count + more) h) found m → IsFlushOf h count from snapshots memory f → HasInstalled old new there h count log next f
    → StandsFirst new more m

-- ---- the logs

-- Where the first so many logs have the first batches, those behind them have the batches that remain.
abbrev pub LogsSplit : Type 0
LogsSplit = (folder : Folder) (from skip before mid last : ℕ) (front back : List Batch) → HaveBatches folder from before (front ++ back) last
    → batches_of (log_records folder from skip) before ≡ Some (front, mid) → HaveBatches folder (from + skip) mid back last

-- Folders of whose logs the same is read have the same batches.
abbrev pub LogsAlike : Type 0
LogsAlike = (old new : Folder) (from before last : ℕ) (batches : List Batch) → ((n : ℕ) → from ≤ n → records (log_bytes new n) ≡ records (log_bytes old n))
    → HaveBatches old from before batches last → HaveBatches new from before batches last
