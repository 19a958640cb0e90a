-- What a flush, a compaction and an opening have to show for an installation.
use Rattle.std.specs.Prelude.{◌≡◌, ℕ, ◌+◌, ◌<◌, ◌≤◌, Contains, map, List, [], ◌∷◌, ◌++◌, take, drop, None, Some}
use Rattle.bl_site.specs.Disk.{Disk, folder_of}
use Rattle.bl_names.specs.Names.{IsNumber, current_text, name_of}
use Rattle.bl_entry.specs.Batches.{Batch}
use Rattle.bl_entry.specs.Revisions.{Revision, after_operations}
use Rattle.bl_edit.specs.declared.edit.Edit.{Edit}
use Rattle.bl_names.specs.declared.name.FileName.{FileName}
use Rattle.bl_names.specs.declared.name.FileName.TheVariants.{Current, Manifest, Log, Table, Blob, Temp}
use Rattle.bl_build.specs.Listing.{Listing}
use Rattle.bl_build.specs.Restoring.{Restored, restored_by}
use Rattle.bl_wal.specs.LogFile.{log_name, new_log}
use Rattle.bl_wal.specs.Held.{HoldsBatches}
use Rattle.bl_out.specs.Files.{file}
use Rattle.bl_folder.specs.Live.{IsLive}
use Rattle.bl_folder.specs.Settled.{IsSynced}
use Rattle.bl_folder.specs.Holding.{Holding}
use Rattle.bl_folder.specs.Stands.{IsSound}
use Rattle.bl_folder.specs.Fronts.{cut_to, last_after}
use Rattle.bl_open.specs.Steady.{Maps, Steady, HasFiles}

-- Its tables alone make the map after so many writes.
abbrev pub TablesMake : Maps → ℕ → Holding → Type 0
TablesMake maps before h = (found : List Revision) × IsSound (cut_to 0 h) found (maps before)

-- from one of the maps on, each batch makes the next one
abbrev pub MapsFollow : Maps → ℕ → List Batch → Type 0
MapsFollow maps at [] = Unit {0}
MapsFollow maps at (b ∷ bs) = (maps (at + 1) ≡ after_operations b.operations (maps at)) × MapsFollow maps (at + 1) bs

-- the last sequence of the batches below the log in use
abbrev pub switched_at : Steady → ℕ
switched_at s = last_after s.holding.live.standing.last_sequence (take s.below s.holding.batches)

-- a table or a blob file of the version
abbrev pub IsFileOf : Listing → FileName → Type 0
IsFileOf v Current = ⊥
IsFileOf v (Manifest n) = ⊥
IsFileOf v (Log n) = ⊥
IsFileOf v (Table n) = Contains (map (λ t. t.number) v.tables) n
IsFileOf v (Blob n) = Contains (map (λ b. b.number) v.blobs) n
IsFileOf v (Temp n) = ⊥

-- what is needed beside CURRENT and the manifest: these files, and the logs from the log number on
abbrev pub IsBeside : Restored → FileName → Type 0
IsBeside live Current = ⊥
IsBeside live (Manifest n) = ⊥
IsBeside live (Log n) = IsNumber n × (live.standing.log_number ≤ n)
IsBeside live (Table n) = IsFileOf live.version (Table n)
IsBeside live (Blob n) = IsFileOf live.version (Blob n)
IsBeside live (Temp n) = ⊥

-- A flush of all that is below the log in use: its log number is that of the log in use, and its tables make the map after those writes.
pub record Flushes (maps : Maps) (s : Steady) (e : Edit) (h : Holding) (disk : Disk) : Type 0 where
  pub restores : restored_by (s.edits ++ e ∷ []) ≡ Some h.live
  pub files : HasFiles h disk
  pub log_number : h.live.standing.log_number ≡ s.log.number
  pub sequence : h.live.standing.last_sequence ≡ switched_at s
  pub batches : h.batches ≡ drop s.below s.holding.batches
  pub last : h.last ≡ s.holding.last
  pub makes : TablesMake maps (s.before + s.below) h

-- A compaction: only tables and blob files are others, and the tables make the same map.
pub record Rewrites (maps : Maps) (s : Steady) (e : Edit) (h : Holding) (disk : Disk) : Type 0 where
  pub restores : restored_by (s.edits ++ e ∷ []) ≡ Some h.live
  pub files : HasFiles h disk
  pub log_number : h.live.standing.log_number ≡ s.holding.live.standing.log_number
  pub sequence : h.live.standing.last_sequence ≡ s.holding.live.standing.last_sequence
  pub batches : h.batches ≡ s.holding.batches
  pub last : h.last ≡ s.holding.last
  pub makes : TablesMake maps s.before h

-- An opening: no batch is left in a log, and the log of this number is new, and behind all others.
pub record Begins (maps : Maps) (before number : ℕ) (h : Holding) (disk : Disk) : Type 0 where
  pub files : HasFiles h disk
  pub is_number : IsNumber number
  pub log_number : h.live.standing.log_number ≡ number
  pub empty : HoldsBatches disk (new_log number) [] 0
  pub behind : (n : ℕ) → IsNumber n → number < n → disk (log_name n) ≡ None
  pub batches : h.batches ≡ []
  pub last : h.last ≡ h.live.standing.last_sequence
  pub makes : TablesMake maps before h

-- CURRENT is the text that names the manifest of this number, all of it synced, and the temporary file of the number is gone
pub record HasCurrent (number : ℕ) (disk : Disk) : Type 0 where
  pub text : file (folder_of disk) Current ≡ Some (current_text number)
  pub synced : IsSynced disk Current
  pub gone : disk (name_of (Temp number)) ≡ None

-- so it is, and the manifest, all of it synced, restores this
pub record IsInstalled (number : ℕ) (live : Restored) (disk : Disk) : Type 0 where
  pub is_live : IsLive (folder_of disk) number live
  pub current : HasCurrent number disk
  pub manifest : IsSynced disk (Manifest number)
