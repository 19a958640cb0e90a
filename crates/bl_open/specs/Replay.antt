-- The logs of a folder, from a log number on, where one of them breaks off.
use Rattle.std.specs.Prelude.{◌≡◌, ℕ, ◌+◌, List, Some}
use Rattle.bl_site.specs.Disk.{Folder, Name}
use Rattle.bl_names.specs.declared.name.FileName.TheVariants.{Log}
use Rattle.bl_names.specs.Names.{IsNumber, name_of}
use Rattle.bl_entry.specs.Batches.{Batch}
use Rattle.bl_entry.specs.Records.{batches_of}
use Rattle.bl_wal.specs.Replay.{BreaksOff}
use Rattle.bl_out.specs.Files.{file}
use Rattle.bl_folder.specs.Logs.{log_records}

-- The logs from this number on, as many as stand below this one, hold batches behind a sequence. This one has a record that is no batch, or does not
-- begin behind the last sequence: its name, and the place behind that record.
pub record LogsFail (folder : Folder) (from before : ℕ) (name : Name) (place : ℕ) : Type 0 where
  pub below : ℕ
  pub number : IsNumber (from + below)
  pub name_is : name ≡ name_of (Log (from + below))
  pub bytes : List ℕ
  pub there : file folder (Log (from + below)) ≡ Some bytes
  pub batches : List Batch
  pub last : ℕ
  pub are : batches_of (log_records folder from below) before ≡ Some (batches, last)
  pub breaks : BreaksOff bytes last place
