-- What an opening found, and what it makes of it.
use Rattle.std.specs.Prelude.{◌≡◌, ◌⊎◌, ℕ, ◌<◌, ◌≤◌, [], Option, None, Some}
use Rattle.std.specs.FinMap.{empty}
use Rattle.bl_site.specs.Disk.{Name, Folder, Disk, Cut, folder_of}
use Rattle.bl_names.specs.declared.name.FileName.{FileName}
use Rattle.bl_names.specs.declared.name.FileName.TheVariants.{Current, Manifest, Log, Table, Blob, Temp}
use Rattle.bl_names.specs.Names.{IsNameOf, IsNumber}
use Rattle.bl_entry.specs.Revisions.{Map}
use Rattle.bl_build.specs.Restoring.{Restored}
use Rattle.bl_build.specs.Versions.{IsVersion}
use Rattle.bl_wal.specs.LogFile.{log_name}
use Rattle.bl_folder.specs.Flushes.{IsBelow}
use Rattle.bl_folder.specs.Holding.{Holding}
use Rattle.bl_folder.specs.Live.{IsFresh, IsLive}
use Rattle.bl_folder.specs.Needed.{IsNeeded}
use Rattle.bl_folder.specs.Settled.{IsSynced}
use Rattle.bl_open.specs.Steady.{Maps, HasFiles}
use Rattle.bl_open.specs.SteadyCalls.{IsAtRest, IsLoose}
use Rattle.bl_open.specs.Installations.{TablesMake}
use Rattle.bl_open.specs.SteadyCuts.{IsLeftFor}

-- a fresh folder, or the number of a manifest and what it restores
abbrev pub Found : Type 0
Found = Option (ℕ × Restored)

abbrev pub IsFoundAs : Found → Folder → Type 0
IsFoundAs None folder = IsFresh folder
IsFoundAs (Some found) folder = IsLive folder found.0 found.1

-- A disk from which a cut takes nothing of the map that its folder stands for, and which still is what was found.
abbrev pub RestsAs : Found → Map → Disk → Type 0
RestsAs None m disk = IsFresh (folder_of disk) × ((n : ℕ) → IsNumber n → IsSynced disk (Log n)) × (m ≡ empty)
RestsAs (Some found) m disk = IsAtRest found.0 found.1 m disk

-- What is left of what was found stands for this map, and its needed logs are left whole. Where a live part was found, one is left.
abbrev pub IsLeftAs : Found → Map → Cut → Type 0
IsLeftAs None m c = (IsFresh c.folder × (m ≡ empty)) ⊎ IsLeftFor m c
IsLeftAs (Some found) m c = IsLeftFor m c

-- so it is with what is left of this folder
abbrev pub IsLeftStanding : Folder → Map → Cut → Type 0
IsLeftStanding folder m c = (IsFresh folder × IsFresh c.folder × (m ≡ empty)) ⊎ IsLeftFor m c

-- whatever is done with this file, the folder stays what was found: in a fresh folder it is a manifest or a temporary file, in another one it is not needed
abbrev pub IsSpareFor : Found → FileName → Type 0
IsSpareFor None f = IsLoose f
IsSpareFor (Some found) f = IsNeeded found.0 found.1 f → ⊥

-- the name of such a file
abbrev pub IsSpareName : Found → Name → Type 0
IsSpareName found name = (f : FileName) × IsNameOf name f × IsSpareFor found f

-- a log that is not there
abbrev pub IsAbsentLog : Disk → FileName → Type 0
IsAbsentLog disk f = (n : ℕ) × (f ≡ Log n) × (disk (log_name n) ≡ None)

-- an opening may make this file
abbrev pub MayBeMade : Found → Disk → FileName → Type 0
MayBeMade found disk f = IsSpareFor found f ⊎ IsAbsentLog disk f

-- The tables and the blob files of a version are there, synced, and alone make the first of the maps; no log is numbered as the one to be made, or behind it.
pub record HasTables (maps : Maps) (number : ℕ) (h : Holding) (disk : Disk) : Type 0 where
  pub files : HasFiles h disk
  pub version : IsVersion h.live.version
  pub log_number : h.live.standing.log_number ≡ number
  pub behind : (n : ℕ) → IsNumber n → number ≤ n → disk (log_name n) ≡ None
  pub batches : h.batches ≡ []
  pub last : h.last ≡ h.live.standing.last_sequence
  pub makes : TablesMake maps 0 h

-- the manifest and all files of the version have numbers below this one
abbrev pub AreAllBelow : ℕ → Found → Type 0
AreAllBelow from None = Unit {0}
AreAllBelow from (Some found) = (found.0 < from) × IsBelow from found.1.version

-- a manifest, a table, a blob file or a temporary file whose number is drawn from here on
abbrev pub IsFrom : ℕ → FileName → Type 0
IsFrom from Current = ⊥
IsFrom from (Manifest n) = from ≤ n
IsFrom from (Log n) = ⊥
IsFrom from (Table n) = from ≤ n
IsFrom from (Blob n) = from ≤ n
IsFrom from (Temp n) = from ≤ n

-- on a fresh folder a table and a blob file are not made
abbrev pub IsDrawn : ℕ → Found → FileName → Type 0
IsDrawn from None f = IsLoose f
IsDrawn from (Some found) f = IsFrom from f
