-- The edits that a manifest holds on the disk, and what a power cut leaves of them.
use Rattle.std.specs.Prelude.{◌≡◌, ◌⊎◌, ℕ, ◌+◌, ◌≤◌, false, List, [], ◌∷◌, ◌++◌, length, map, take, Some, Result, Ok, Err}
use Rattle.bl_site.specs.Disk.{Disk, Folder}
use Rattle.bl_names.specs.Names.{manifest_name}
use Rattle.bl_log.specs.Log.{records}
use Rattle.bl_log.specs.Layout.{written}
use Rattle.bl_edit.specs.Spelling.{edit_bytes}
use Rattle.bl_edit.specs.declared.edit.Edit.{Edit}
use Rattle.bl_build.specs.Restoring.{edits_of}
use Rattle.bl_records.specs.Held.{HoldsRecords}
use Rattle.bl_manifest.specs.ManifestFile.{ManifestFile, file_of}
use Rattle.bl_manifest.specs.declared.error.ManifestErr.{ManifestErr}
use Rattle.bl_manifest.specs.declared.error.ManifestErr.TheVariants.{Disk as DiskFailed, Corrupt, OutOfMemory}

-- edits in the order of a manifest
abbrev pub Edits : Type 0
Edits = List Edit

-- a manifest of these edits, from its beginning on
abbrev pub manifest_of : Edits → List ℕ
manifest_of edits = written 0 (map edit_bytes edits)

-- each is read as it is written
abbrev pub AreReadBack : Edits → Type 0
AreReadBack edits = edits_of (map edit_bytes edits) ≡ Some edits

-- What is written of the manifest are these edits, of which the first so many are synced. While no call of it has failed, all of them
-- are, it reads as it is written, and the next record goes to its end.
pub record HoldsEdits (disk : Disk) (manifest : ManifestFile) (edits : Edits) (synced : ℕ) : Type 0 where
  pub records : HoldsRecords disk (file_of manifest) (map edit_bytes edits) synced
  pub are : AreReadBack edits
  pub all_synced : manifest.failed ≡ false → synced ≡ length edits

-- after an append: one edit more, synced at Ok; where memory ran out, perhaps not
abbrev pub HoldsOneMore : Result (Unit {0}) ManifestErr → Disk → ManifestFile → Edits → Edit → ℕ → Type 0
HoldsOneMore (Ok x) disk manifest edits e synced = HoldsEdits disk manifest (edits ++ e ∷ []) (length edits + 1)
HoldsOneMore (Err DiskFailed) disk manifest edits e synced = HoldsEdits disk manifest (edits ++ e ∷ []) synced
HoldsOneMore (Err OutOfMemory) disk manifest edits e synced = HoldsEdits disk manifest edits synced ⊎ HoldsEdits disk manifest (edits ++ e ∷ []) synced
HoldsOneMore (Err (Corrupt name place)) disk manifest edits e synced = ⊥

-- the manifest of this number reads as these edits
pub record ReadsEdits (folder : Folder) (number : ℕ) (edits : Edits) : Type 0 where
  pub bytes : List ℕ
  pub there : folder (manifest_name number) ≡ Some bytes
  pub are : edits_of (records bytes) ≡ Some edits

-- it reads as the first of these edits, at least so many of them
pub record ReadsFirst (folder : Folder) (number : ℕ) (edits : Edits) (least : ℕ) : Type 0 where
  pub count : ℕ
  pub at_least : least ≤ count
  pub at_most : count ≤ length edits
  pub reads : ReadsEdits folder number (take count edits)
