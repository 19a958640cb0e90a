-- A store that stands on a disk, as its files are written: CURRENT, a manifest, tables, blob files and logs.
use Rattle.std.specs.Prelude.{◌≡◌, ◌≢◌, ℕ, ◌+◌, ◌<◌, ◌≤◌, List, [], length, Some, false}
use Rattle.std.specs.List.{AllByRecursion}
use Rattle.bl_site.specs.Disk.{Disk, written_of}
use Rattle.bl_names.specs.declared.name.FileName.TheVariants.{Current, Log}
use Rattle.bl_names.specs.Names.{IsNumber, current_text}
use Rattle.bl_entry.specs.Revisions.{Map, Revision}
use Rattle.bl_build.specs.Restoring.{restored_by}
use Rattle.bl_wal.specs.LogFile.{LogFile}
use Rattle.bl_wal.specs.Held.{Batches, HoldsBatches}
use Rattle.bl_manifest.specs.ManifestFile.{ManifestFile}
use Rattle.bl_manifest.specs.Held.{Edits, HoldsEdits}
use Rattle.bl_out.specs.Files.{file}
use Rattle.bl_folder.specs.Files.{log_bytes}
use Rattle.bl_folder.specs.Logs.{HaveBatches}
use Rattle.bl_folder.specs.Holding.{Holding, IsSpelled, blob_in}
use Rattle.bl_entry.specs.Items.{each_of}
use Rattle.bl_out.specs.Tables.{table_in}
use Rattle.bl_folder.specs.Stands.{IsSound}
use Rattle.bl_folder.specs.Fronts.{cut_to}
use Rattle.bl_folder.specs.Settled.{IsSynced, NamesSynced}

-- the map after each number of writes
abbrev pub Maps : Type 0
Maps = ℕ → Map

-- what a steady disk holds
pub record Steady : Type 0 where
  -- the manifest, and its edits
  pub manifest : ManifestFile
  pub edits : Edits
  -- the log in use, its batches, and how many of them are synced
  pub log : LogFile
  pub own : Batches
  pub synced : ℕ
  -- how many batches stand in the needed logs below it, all of them synced
  pub below : ℕ
  -- the live part, its tables and blob files, and the batches of all needed logs
  pub holding : Holding
  -- how many writes have no batch any more: the tables hold what they put
  pub before : ℕ

-- the writes that every cut keeps
abbrev pub durable : Steady → ℕ
durable s = s.before + (s.below + s.synced)

-- all writes
abbrev pub accepted : Steady → ℕ
accepted s = s.before + length s.holding.batches

-- no call of the log or of the manifest has failed
pub record IsUsable (s : Steady) : Type 0 where
  pub log : s.log.failed ≡ false
  pub manifest : s.manifest.failed ≡ false

-- With the first so many of its batches alone, what is held makes the map after as many writes more.
abbrev pub MakesMaps : Maps → ℕ → Holding → Type 0
MakesMaps maps before h = (count : ℕ) → count ≤ length h.batches → (found : List Revision) × IsSound (cut_to count h) found (maps (before + count))

-- The tables and blob files of the version are there, and synced.
pub record HasFiles (h : Holding) (disk : Disk) : Type 0 where
  pub tables : each_of (table_in (written_of disk)) h.live.version.tables ≡ Some h.tables
  pub blobs : each_of (blob_in (written_of disk)) h.live.version.blobs ≡ Some h.blobs
  pub spelled : AllByRecursion (IsSpelled (written_of disk)) h.blobs
  pub named : NamesSynced disk h.live

-- All that CURRENT and a manifest need beside them is there, as it is written: the tables and blob files of the version, and the logs, of which the log in use alone may have unsynced bytes, and is the last that has any.
pub record IsBacked (maps : Maps) (s : Steady) (disk : Disk) : Type 0 where
  pub files : HasFiles s.holding disk
  pub batches : HaveBatches (written_of disk) s.holding.live.standing.log_number s.holding.live.standing.last_sequence s.holding.batches s.holding.last
  pub is_number : IsNumber s.log.number
  pub needed : s.holding.live.standing.log_number ≤ s.log.number
  pub in_use : HoldsBatches disk s.log s.own s.synced
  pub count : length s.holding.batches ≡ s.below + length s.own
  pub others : (n : ℕ) → IsNumber n → s.holding.live.standing.log_number ≤ n → n ≢ s.log.number → IsSynced disk (Log n)
  pub last : (n : ℕ) → s.log.number < n → log_bytes (written_of disk) n ≡ []
  pub makes : MakesMaps maps s.before s.holding

-- The disk is steady: CURRENT, synced, names the manifest; its edits, all of them synced, restore the live part; and the rest is there.
pub record IsSteady (maps : Maps) (s : Steady) (disk : Disk) : Type 0 where
  pub number : IsNumber s.manifest.number
  pub current : file (written_of disk) Current ≡ Some (current_text s.manifest.number)
  pub current_synced : IsSynced disk Current
  pub edits : HoldsEdits disk s.manifest s.edits (length s.edits)
  pub restores : restored_by s.edits ≡ Some s.holding.live
  pub backed : IsBacked maps s disk

-- so is each disk that there may be
abbrev pub AreSteady : Maps → Steady → (Disk → Type 0) → Type 0
AreSteady maps s may_be = (disk : Disk) → may_be disk → IsSteady maps s disk
