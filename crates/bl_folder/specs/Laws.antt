-- Laws of folders.
use Rattle.std.specs.Prelude.{◌≡◌, ◌⊎◌, ℕ, ◌≤◌, List, length, map, take, Contains, Some}
use Rattle.std.specs.List.{AllByRecursion}
use Rattle.std.specs.FinMap.{empty}
use Rattle.bl_site.specs.Disk.{Name, File, Folder, Disk, Cut, IsCut, IsRemnant, folder_of, written_of}
use Rattle.bl_site.specs.Calls.{Frays}
use Rattle.bl_names.specs.declared.name.FileName.TheVariants.{Table, Blob}
use Rattle.bl_entry.specs.Batches.{Batch}
use Rattle.bl_entry.specs.Revisions.{Map}
use Rattle.bl_build.specs.Restoring.{Restored}
use Rattle.bl_build.specs.Versions.{IsVersion}
use Rattle.bl_records.specs.Chance.{NoChanceMatch}
use Rattle.bl_out.specs.Files.{file}
use Rattle.bl_out.specs.References.{references, count_of}
use Rattle.bl_out.specs.Tables.{table_entries}
use Rattle.bl_folder.specs.Logs.{HaveBatches}
use Rattle.bl_folder.specs.Live.{IsFresh, IsLive, IsQuietOnFresh}
use Rattle.bl_folder.specs.Holding.{Holding, Holds}
use Rattle.bl_folder.specs.Stands.{Stands, StandsLive}
use Rattle.bl_folder.specs.Fronts.{StandsFirst}
use Rattle.bl_folder.specs.Needed.{FilesAlike, IsQuiet, KeepsNeeded, NeededAreThere, ReadsAlike}
use Rattle.bl_folder.specs.Settled.{IsSettled, NeededAreSynced}

-- A folder has one live part at most,
abbrev pub LiveIsOne : Type 0
LiveIsOne = (folder : Folder) (a b : ℕ) (x y : Restored) → IsLive folder a x → IsLive folder b y → (a ≡ b) × (x ≡ y)

-- its logs hold one list of batches at most,
abbrev pub BatchesAreOne : Type 0
BatchesAreOne = (folder : Folder) (from before : ℕ) (a b : List Batch) (m n : ℕ)
    → HaveBatches folder from before a m → HaveBatches folder from before b n → (a ≡ b) × (m ≡ n)

-- all that it holds is one,
abbrev pub HoldingIsOne : Type 0
HoldingIsOne = (folder : Folder) (a b : ℕ) (x y : Holding) → Holds folder a x → Holds folder b y → (a ≡ b) × (x ≡ y)

-- and it stands for one map at most.
abbrev pub StandsForOne : Type 0
StandsForOne = (folder : Folder) (m n : Map) → Stands folder m → Stands folder n → m ≡ n

-- A fresh folder stands for the empty map.
abbrev pub FreshIsEmpty : Type 0
FreshIsEmpty = (folder : Folder) → IsFresh folder → Stands folder empty

-- A call on a fresh folder that makes no CURRENT, table or blob file, and puts no byte in a log, leaves it fresh.
abbrev pub FreshStays : Type 0
FreshStays = (old new : Folder) (name : Name) → IsFresh old → IsQuietOnFresh name old new → IsFresh new

-- The version of a live part is one: its numbers are in bounds and come once, and its lists are in order.
abbrev pub LiveIsVersion : Type 0
LiveIsVersion = (folder : Folder) (manifest : ℕ) (live : Restored) → IsLive folder manifest live → IsVersion live.version

-- What else a folder holds does not matter: one with the same bytes under each needed name, whose further logs are empty, has the same live part, and stands for the same map.
abbrev pub Frame : Type 0
Frame = (old new : Folder) (manifest : ℕ) (live : Restored) (m : Map) → IsLive old manifest live → Stands old m → KeepsNeeded manifest live old new
    → IsLive new manifest live × Stands new m

-- Nor does it matter what stands behind the last record of the manifest and of a log.
abbrev pub ReadAlike : Type 0
ReadAlike = (old new : Folder) (manifest : ℕ) (live : Restored) (m : Map) → IsLive old manifest live → Stands old m → ReadsAlike manifest live old new
    → IsLive new manifest live × Stands new m

-- So a call that changes no needed name, and makes no log but an empty one, keeps what is needed.
abbrev pub QuietKeepsNeeded : Type 0
QuietKeepsNeeded = (old new : Folder) (manifest : ℕ) (live : Restored) (name : Name) → IsQuiet manifest live name old new → KeepsNeeded manifest live old new

-- No needed file is missing in a folder that stands for a map.
abbrev pub NoneIsMissing : Type 0
NoneIsMissing = (folder : Folder) (manifest : ℕ) (live : Restored) (m : Map) → IsLive folder manifest live → Stands folder m → NeededAreThere folder manifest live

-- With all of its batches counted, a folder that is not fresh stands for its own map.
abbrev pub AllStand : Type 0
AllStand = (folder : Folder) (m : Map) (s : StandsLive folder m) → StandsFirst folder (length s.holding.batches) m

-- Each front of its batches makes a map,
abbrev pub FrontsMakeMaps : Type 0
FrontsMakeMaps = (folder : Folder) (m : Map) (s : StandsLive folder m) (count : ℕ) → count ≤ length s.holding.batches → (n : Map) × StandsFirst folder count n

-- one at most,
abbrev pub FirstIsOne : Type 0
FirstIsOne = (folder : Folder) (count : ℕ) (m n : Map) → StandsFirst folder count m → StandsFirst folder count n → m ≡ n

-- for which a folder stands that keeps the front of the batches, and of whose needed files but the logs the same is read.
abbrev pub FrontsStand : Type 0
FrontsStand = (old new : Folder) (count : ℕ) (m : Map) (last : ℕ) (s : StandsFirst old count m) → FilesAlike s.manifest s.holding.live old new
    → HaveBatches new s.holding.live.standing.log_number s.holding.live.standing.last_sequence (take count s.holding.batches) last → StandsLive new m

-- Exact reach: each blob file of the version is named by a table entry,
abbrev pub BlobsAreNamed : Type 0
BlobsAreNamed = (folder : Folder) (m : Map) (s : StandsLive folder m)
    → AllByRecursion (λ b. 1 ≤ count_of b.number (table_entries s.holding.tables)) s.holding.live.version.blobs

-- and each blob file that a table entry names is in the version.
abbrev pub NamedAreThere : Type 0
NamedAreThere = (folder : Folder) (m : Map) (s : StandsLive folder m)
    → AllByRecursion (λ r. Contains (map (λ b. b.number) s.holding.live.version.blobs) r.index.file) (references (table_entries s.holding.tables))

-- the folder has a live part, whose tables and blob files are as they read on the disk
pub record KeepsLive (disk : Disk) (folder : Folder) : Type 0 where
  pub manifest : ℕ
  pub live : Restored
  pub is_live : IsLive folder manifest live
  pub tables : AllByRecursion (λ t. file folder (Table t.number) ≡ file (folder_of disk) (Table t.number)) live.version.tables
  pub blobs : AllByRecursion (λ b. file folder (Blob b.number) ≡ file (folder_of disk) (Blob b.number)) live.version.blobs

-- Unless a torn fragment's checksum matches by chance, a power cut leaves of a settled disk a fresh folder, or one with a live part, perhaps an earlier one, whose tables and blob files are as they were. Of its logs it may take what is not synced.
abbrev pub CutsOfSettled : Type 0
CutsOfSettled = (disk : Disk) (told : List ℕ) (c : Cut) → IsSettled disk → IsCut disk told c → NoChanceMatch c.folder c.written
    → IsFresh c.folder ⊎ KeepsLive disk c.folder

-- A sync that fails leaves a settled disk settled, on a site where each file reads as a cut may leave it.
abbrev pub FailedSyncsKeepSettled : Type 0
FailedSyncsKeepSettled = (old new : Disk) (name : Name) → ((other : Name) (x : File) → old other ≡ Some x → IsRemnant x x.read)
    → IsSettled old → Frays name old new → NoChanceMatch (folder_of new) (written_of new) → IsSettled new

-- A live disk whose needed files are synced is settled,
abbrev pub SyncedAreSettled : Type 0
SyncedAreSettled = (disk : Disk) (manifest : ℕ) (live : Restored) → IsLive (folder_of disk) manifest live → NeededAreSynced disk manifest live → IsSettled disk

-- and a cut leaves it its live part and its map, whatever matches by chance.
abbrev pub CutsOfSynced : Type 0
CutsOfSynced = (disk : Disk) (told : List ℕ) (c : Cut) (manifest : ℕ) (live : Restored) (m : Map)
    → IsLive (folder_of disk) manifest live → Stands (folder_of disk) m → NeededAreSynced disk manifest live → IsCut disk told c
    → IsLive c.folder manifest live × Stands c.folder m
