-- What holds of the definitions.
use Rattle.std.specs.Prelude.{◌≡◌, ℕ, ◌<◌, ◌^◌, false, List, [], ◌++◌, length, Some}
use Rattle.std.specs.FinMap.{empty}
use Rattle.bl_site.specs.Disk.{Name, File, Folder, Disk, Cut, IsCut, folder_of}
use Rattle.bl_names.specs.Names.{IsNumber}
use Rattle.bl_entry.specs.Batches.{Batch}
use Rattle.bl_entry.specs.Revisions.{revisions_of, IsMapAt}
use Rattle.bl_wal.specs.LogFile.{LogFile, log_name}
use Rattle.bl_logstore.specs.Logs.{after_batches, HaveBatches}
use Rattle.bl_logstore.specs.Folders.{Stands}
use Rattle.bl_logstore.specs.Stored.{StandsOn}
use Rattle.bl_logstore.specs.Cuts.{LeavesFirst, AreWhole}
use Rattle.bl_logstore.specs.Damage.{IsDamaged}

-- A folder with a fault does not stand.
abbrev pub DamagedDoNotStand : Type 0
DamagedDoNotStand = (folder : Folder) (name : Name) (place : ℕ) (batches : List Batch) (last : ℕ) → IsDamaged folder name place → Stands folder batches last → ⊥

-- The logs of a folder hold one list of batches at most.
abbrev pub BatchesAreOnce : Type 0
BatchesAreOnce = (folder : Folder) (batches others : List Batch) (last other : ℕ) → HaveBatches folder batches last → HaveBatches folder others other
    → (batches ≡ others) × (last ≡ other)

-- The batches, written one after another, make the map of the folder.
abbrev pub BatchesMakeMap : Type 0
BatchesMakeMap = (folder : Folder) (batches : List Batch) (last : ℕ) → HaveBatches folder batches last → IsMapAt (revisions_of batches) last (after_batches batches empty)

-- A disk that a store stands on is a folder of its batches.
abbrev pub StoresStand : Type 0
StoresStand = (log : LogFile) (older own : List Batch) (synced last : ℕ) (disk : Disk) → log.failed ≡ false → StandsOn log older own synced last disk
    → Stands (folder_of disk) (older ++ own) last

-- A power cut leaves the older batches and the first of its own, at least the synced ones.
abbrev pub CutsStand : Type 0
CutsStand = (log : LogFile) (older own : List Batch) (synced last : ℕ) (disk : Disk) (told : List ℕ) (c : Cut) → StandsOn log older own synced last disk
    → IsCut disk told c → LeavesFirst older own synced told c

-- Where all of its own are synced, it leaves them all, whatever checksum may match by chance.
abbrev pub SyncedStoresAreLeft : Type 0
SyncedStoresAreLeft = (log : LogFile) (older own : List Batch) (last : ℕ) (disk : Disk) (told : List ℕ) (c : Cut) → StandsOn log older own (length own) last disk
    → IsCut disk told c → Stands c.folder (older ++ own) last

-- Wherever a log has data, the logs below it are synced.
abbrev pub OlderLogsAreSynced : Type 0
OlderLogsAreSynced = (log : LogFile) (older own : List Batch) (synced last : ℕ) (disk : Disk) → StandsOn log older own synced last disk → AreWhole disk

-- A disk with a log that has data, above one with a byte that is not synced, is not whole.
abbrev pub UnsyncedLogsAreNotWhole : Type 0
UnsyncedLogsAreNotWhole = (lower upper : ℕ) (below above : File) (disk : Disk) → IsNumber lower → lower < upper → upper < 10 ^ 15 → disk (log_name lower) ≡ Some below → (below.handed ≡ [] → ⊥)
    → disk (log_name upper) ≡ Some above → (above.read ≡ [] → ⊥) → AreWhole disk → ⊥
