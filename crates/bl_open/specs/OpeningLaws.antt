-- Laws of openings.
use Rattle.std.specs.Prelude.{◌≡◌, ℕ, ◌≤◌, [], ◌∷◌, List, None, Some}
use Rattle.std.specs.FinMap.{empty}
use Rattle.bl_site.specs.Disk.{Name, Disk, Cut, IsCut, folder_of}
use Rattle.bl_site.specs.Calls.{Creates}
use Rattle.bl_names.specs.declared.name.FileName.{FileName}
use Rattle.bl_names.specs.Names.{HasNumber, IsNumber, name_of, manifest_name}
use Rattle.bl_names.specs.declared.name.FileName.TheVariants.{Manifest}
use Rattle.bl_entry.specs.Revisions.{Map}
use Rattle.bl_edit.specs.declared.edit.Edit.{Edit}
use Rattle.bl_build.specs.Restoring.{restored_by}
use Rattle.bl_build.specs.declared.meta.Standing.{Standing}
use Rattle.bl_open.specs.Fresh.{no_holding}
use Rattle.bl_wal.specs.LogFile.{log_name, new_log}
use Rattle.bl_wal.specs.Held.{HoldsBatches}
use Rattle.bl_manifest.specs.ManifestFile.{ManifestFile}
use Rattle.bl_manifest.specs.Held.{HoldsEdits}
use Rattle.std.specs.List.{AllByRecursion}
use Rattle.bl_out.specs.Quiet.{IsCutBut, IsNoneOf}
use Rattle.bl_folder.specs.Holding.{Holding}
use Rattle.bl_folder.specs.Live.{IsFresh}
use Rattle.bl_folder.specs.Settled.{IsSettled}
use Rattle.bl_folder.specs.Stands.{Stands}
use Rattle.bl_open.specs.Steady.{Maps, Steady, IsSteady, IsUsable, accepted, durable}
use Rattle.bl_open.specs.SteadyCalls.{IsPastBarrier, IsReady, KeepsAllBut, Rests, begun}
use Rattle.bl_open.specs.Installations.{Begins}
use Rattle.bl_open.specs.SteadyCuts.{LeavesMap}
use Rattle.bl_open.specs.Barrier.{FindsOrLeaves}
use Rattle.bl_open.specs.Found.{AreAllBelow, Found, HasTables, IsDrawn, IsFoundAs, IsLeftAs, IsLeftStanding, IsSpareFor, IsSpareName, MayBeMade, RestsAs}

-- Past the barrier a settled disk rests as what was found;
abbrev pub SettledRestAs : Type 0
SettledRestAs = (found : Found) (m : Map) (disk : Disk) → IsFoundAs found (folder_of disk) → IsSettled disk → Stands (folder_of disk) m → IsPastBarrier disk → RestsAs found m disk

-- a fresh folder has no barrier but the first name call.
abbrev pub FreshRests : Type 0
FreshRests = (disk : Disk) → IsSettled disk → IsFresh (folder_of disk) → RestsAs None empty disk

abbrev pub RestsAreRests : Type 0
RestsAreRests = (found : Found) (m : Map) (disk : Disk) → RestsAs found m disk → Rests m disk

-- It rests while a spare file is made, written and synced,
abbrev pub SparesStay : Type 0
SparesStay = (found : Found) (m : Map) (f : FileName) (old new : Disk) → HasNumber f → IsSpareFor found f → KeepsAllBut (name_of f) old new → RestsAs found m old → RestsAs found m new

-- while files of spare names are touched and no others,
abbrev pub SparesTouched : Type 0
SparesTouched = (found : Found) (m : Map) (names : List Name) (old new : Disk) → AllByRecursion (IsSpareName found) names → ((name : Name) → IsNoneOf names name → new name ≡ old name)
    → RestsAs found m old → RestsAs found m new

-- and while a log is made that was not there.
abbrev pub NewFilesStay : Type 0
NewFilesStay = (found : Found) (m : Map) (f : FileName) (old new : Disk) → HasNumber f → MayBeMade found old f → Creates (name_of f) old new → RestsAs found m old → RestsAs found m new

-- A cut that leaves of each other file but these what it may leave of the disk leaves the map,
abbrev pub SparesCut : Type 0
SparesCut = (found : Found) (m : Map) (names : List Name) (disk : Disk) (told : List ℕ) (c : Cut) → AllByRecursion (IsSpareName found) names → IsCutBut names disk told c
    → RestsAs found m disk → IsLeftAs found m c

-- and so does each cut of the disk.
abbrev pub CutsOfRestsAs : Type 0
CutsOfRestsAs = (found : Found) (m : Map) (disk : Disk) (told : List ℕ) (c : Cut) → RestsAs found m disk → IsCut disk told c → IsLeftAs found m c

-- Tables and a new log begin a store,
abbrev pub LogsBegin : Type 0
LogsBegin = (maps : Maps) (number : ℕ) (h : Holding) (old new : Disk) → IsNumber number → HasTables maps number h old → Creates (log_name number) old new → HoldsBatches new (new_log number) [] 0
    → Begins maps 0 number h new

-- and with a manifest of one edit, which restores them, it is ready.
abbrev pub ManifestsMakeReady : Type 0
ManifestsMakeReady = (maps : Maps) (number : ℕ) (h : Holding) (e : Edit) (manifest : ManifestFile) (old new : Disk) → Begins maps 0 number h old → HasNumber (Manifest manifest.number)
    → restored_by (e ∷ []) ≡ Some h.live → KeepsAllBut (manifest_name manifest.number) old new → HoldsEdits new manifest (e ∷ []) 1
    → IsReady maps (begun manifest (e ∷ []) number h 0) new

-- A disk that rests is settled.
abbrev pub RestsAreSettled : Type 0
RestsAreSettled = (m : Map) (disk : Disk) → Rests m disk → IsSettled disk

-- What has a number from here on is spare, where all that was found has lower ones.
abbrev pub NewNumbersAreSpare : Type 0
NewNumbersAreSpare = (from : ℕ) (found : Found) (f : FileName) → AreAllBelow from found → IsDrawn from found f → IsSpareFor found f

-- A fresh folder has all that an opening needs, but for the log: no table.
abbrev pub FreshHasTables : Type 0
FreshHasTables = (maps : Maps) (log : ℕ) (standing : Standing) (disk : Disk) → standing.log_number ≡ log → maps 0 ≡ empty → ((n : ℕ) → IsNumber n → log ≤ n → disk (log_name n) ≡ None)
    → HasTables maps log (no_holding standing) disk

-- Where the disk was steady and no call had failed, a cut of an opening leaves the map after some first writes, all durable ones among them.
abbrev pub OpeningsLeaveMaps : Type 0
OpeningsLeaveMaps = (maps : Maps) (s : Steady) (disk : Disk) (told : List ℕ) (c : Cut) → IsSteady maps s disk → IsUsable s
    → FindsOrLeaves disk (IsLeftStanding (folder_of disk) (maps (accepted s))) told c → LeavesMap maps (durable s) (accepted s) told c
