-- What calls of a site make of a steady disk.
use Rattle.std.specs.Prelude.{◌≡◌, ◌≢◌, ◌⊎◌, ℕ, ◌+◌, ◌<◌, ◌≤◌, [], ◌∷◌, ◌++◌, length, Option, None, Some}
use Rattle.bl_site.specs.Disk.{Name, File, Disk, folder_of}
use Rattle.bl_names.specs.declared.name.FileName.{FileName}
use Rattle.bl_names.specs.declared.name.FileName.TheVariants.{Current, Manifest, Log, Table, Blob, Temp}
use Rattle.bl_names.specs.Names.{IsNumber, name_of, current_text}
use Rattle.bl_entry.specs.Batches.{Batch}
use Rattle.bl_edit.specs.declared.edit.Edit.{Edit}
use Rattle.bl_entry.specs.Revisions.{Map}
use Rattle.bl_build.specs.Restoring.{Restored, restored_by}
use Rattle.bl_wal.specs.LogFile.{LogFile, new_log}
use Rattle.bl_wal.specs.Held.{IsReadBack}
use Rattle.bl_manifest.specs.ManifestFile.{ManifestFile}
use Rattle.bl_manifest.specs.Held.{Edits, HoldsEdits}
use Rattle.bl_folder.specs.Holding.{Holding}
use Rattle.bl_folder.specs.Needed.{IsNeeded}
use Rattle.std.specs.FinMap.{empty}
use Rattle.bl_folder.specs.Live.{IsFresh, IsLive}
use Rattle.bl_folder.specs.Stands.{Stands}
use Rattle.bl_folder.specs.Settled.{IsSynced, IsSyncedFile, NeededAreSynced}
use Rattle.bl_open.specs.Steady.{Maps, Steady, IsBacked}

-- every name but this one stands for what it stood for
abbrev pub KeepsAllBut : Name → Disk → Disk → Type 0
KeepsAllBut name old new = (other : Name) → other ≢ name → new other ≡ old other

-- every name but these two
abbrev pub KeepsAllButTwo : Name → Name → Disk → Disk → Type 0
KeepsAllButTwo one two old new = (other : Name) → other ≢ one → other ≢ two → new other ≡ old other

abbrev pub IsUnneeded : Steady → Name → Type 0
IsUnneeded s name = (f : FileName) → IsNeeded s.manifest.number s.holding.live f → name_of f ≢ name

-- a log behind the log in use, which is there and empty
pub record IsFurtherLog (log : LogFile) (f : FileName) (now : Option File) : Type 0 where
  pub number : ℕ
  pub is : f ≡ Log number
  pub further : log.number < number
  pub empty : now ≡ Some (record { read = []; front = []; handed = [] })

-- A quiet call: each needed file is as it was, or is a further log, which is empty.
abbrev pub IsQuietCall : Steady → Disk → Disk → Type 0
IsQuietCall s old new = (f : FileName) → IsNeeded s.manifest.number s.holding.live f → (new (name_of f) ≡ old (name_of f)) ⊎ IsFurtherLog s.log f (new (name_of f))

-- ---- a write

-- the batch reads back, and begins behind the last sequence
pub record IsNextBatch (s : Steady) (b : Batch) : Type 0 where
  pub first : b.first ≡ s.holding.last + 1
  pub reads : IsReadBack b

abbrev pub with_batch : Holding → Batch → Holding
with_batch h b = record h { batches = h.batches ++ b ∷ []; last = h.last + length b.operations }

abbrev pub wrote : Steady → Batch → LogFile → Steady
wrote s b log = record s { log = log; own = s.own ++ b ∷ []; holding = with_batch s.holding b }

-- ---- a switch: the log in use is all synced, and the log of this number is in use

abbrev pub switched : Steady → ℕ → Steady
switched s number = record s { log = new_log number; own = []; synced = 0; below = length s.holding.batches }

-- ---- an installation

-- With the edit the manifest restores the live part of another holding, of which so many batches are below the log in use, and all else is there; it holds the same writes.
pub record Installs (maps : Maps) (s : Steady) (e : Edit) (h : Holding) (before below : ℕ) (disk : Disk) : Type 0 where
  pub restores : restored_by (s.edits ++ e ∷ []) ≡ Some h.live
  pub backed : IsBacked maps (record s { holding = h; before = before; below = below }) disk
  pub writes : before + below ≡ s.before + s.below

abbrev pub installed : Steady → Edit → Holding → ℕ → ℕ → ManifestFile → Steady
installed s e h before below manifest = record s { manifest = manifest; edits = s.edits ++ e ∷ []; holding = h; before = before; below = below }

-- ---- an opening

-- Before an opening renames CURRENT: the folder stands for this map, and its needed files are synced.
pub record IsAtRest (manifest : ℕ) (live : Restored) (m : Map) (disk : Disk) : Type 0 where
  pub is_live : IsLive (folder_of disk) manifest live
  pub stands : Stands (folder_of disk) m
  pub synced : NeededAreSynced disk manifest live

-- a log that was not there, and is there and empty
pub record IsNewLog (f : FileName) (was now : Option File) : Type 0 where
  pub number : ℕ
  pub is : f ≡ Log number
  pub absent : was ≡ None
  pub empty : now ≡ Some (record { read = []; front = []; handed = [] })

-- each needed file is as it was, or is a new log, which is empty
abbrev pub KeepsRest : ℕ → Restored → Disk → Disk → Type 0
KeepsRest manifest live old new = (f : FileName) → IsNeeded manifest live f → (new (name_of f) ≡ old (name_of f)) ⊎ IsNewLog f (old (name_of f)) (new (name_of f))

-- what is held with no batch in a log: the log of this number is in use, and new
abbrev pub begun : ManifestFile → Edits → ℕ → Holding → ℕ → Steady
begun manifest edits number h before =
    record { manifest = manifest; edits = edits; log = new_log number; own = []; synced = 0; below = 0; holding = h; before = before }

-- A disk from which a cut takes nothing of the map that its folder stands for: a fresh folder whose logs are synced, or one at rest.
abbrev pub Rests : Map → Disk → Type 0
Rests m disk = (IsFresh (folder_of disk) × ((n : ℕ) → IsNumber n → IsSynced disk (Log n)) × (m ≡ empty)) ⊎ ((manifest : ℕ) × (live : Restored) × IsAtRest manifest live m disk)

-- a manifest or a temporary file, which a fresh folder may have
abbrev pub IsLoose : FileName → Type 0
IsLoose Current = ⊥
IsLoose (Manifest n) = Unit {0}
IsLoose (Log n) = ⊥
IsLoose (Table n) = ⊥
IsLoose (Blob n) = ⊥
IsLoose (Temp n) = Unit {0}

-- An opening may make or change this file before it renames CURRENT: in a fresh folder a loose one, else one that is not needed.
pub record IsSpare (f : FileName) (disk : Disk) : Type 0 where
  pub fresh : IsFresh (folder_of disk) → IsLoose f
  pub live : (manifest : ℕ) (live : Restored) → IsLive (folder_of disk) manifest live → IsNeeded manifest live f → ⊥

-- the barrier of an opening: the manifest and the needed logs, if there are any, are synced
abbrev pub IsPastBarrier : Disk → Type 0
IsPastBarrier disk = (manifest : ℕ) (live : Restored) → IsLive (folder_of disk) manifest live
    → IsSynced disk (Manifest manifest) × ((n : ℕ) → IsNumber n → live.standing.log_number ≤ n → IsSynced disk (Log n))

-- all is there but CURRENT
pub record IsReady (maps : Maps) (s : Steady) (disk : Disk) : Type 0 where
  pub number : IsNumber s.manifest.number
  pub edits : HoldsEdits disk s.manifest s.edits (length s.edits)
  pub restores : restored_by s.edits ≡ Some s.holding.live
  pub backed : IsBacked maps s disk

-- the text that CURRENT is to have stands in a temporary file, synced
pub record HasText (temp manifest : ℕ) (disk : Disk) : Type 0 where
  pub text : File
  pub there : disk (name_of (Temp temp)) ≡ Some text
  pub synced : IsSyncedFile text
  pub reads : text.read ≡ current_text manifest
