-- A manifest that is written.
use Rattle.std.specs.Prelude.{ℕ, ◌+◌, ◌%◌, Bool, false, List, length}
use Rattle.bl_edit.specs.Spelling.{edit_bytes}
use Rattle.bl_edit.specs.declared.edit.Edit.{Edit}
use Rattle.bl_log.specs.Layout.{layout}
use Rattle.bl_names.specs.Names.{manifest_name}
use Rattle.bl_records.specs.WrittenFile.{WrittenFile}

-- a manifest's number, the place in its block at which the next record stands, and whether a call of it has failed
pub record ManifestFile : Type 0 where
  pub number : ℕ
  pub place : ℕ
  pub failed : Bool

-- one without a record
abbrev pub new_manifest : ℕ → ManifestFile
new_manifest number = record { number = number; place = 0; failed = false }

-- the bytes that append an edit as one record
abbrev pub record_bytes : ℕ → Edit → List ℕ
record_bytes place e = layout place (edit_bytes e)

-- the manifest behind these bytes more
abbrev pub behind : ManifestFile → List ℕ → ManifestFile
behind manifest bytes = record { number = manifest.number; place = (manifest.place + length bytes) % 32768; failed = manifest.failed }

-- the file that it is
abbrev pub file_of : ManifestFile → WrittenFile
file_of manifest = record { name = manifest_name manifest.number; place = manifest.place; failed = manifest.failed }
