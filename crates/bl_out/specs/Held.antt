-- What the files of an output are on the disk.
use Rattle.std.specs.Prelude.{◌≡◌, ℕ, List, [], ◌++◌, take, drop, Some}
use Rattle.std.specs.List.{AllByRecursion}
use Rattle.bl_site.specs.Disk.{Disk, File}
use Rattle.bl_names.specs.declared.name.FileName.{FileName}
use Rattle.bl_names.specs.declared.name.FileName.TheVariants.{Table, Blob}
use Rattle.bl_names.specs.Names.{name_of}
use Rattle.bl_out.specs.Outputs.{Out, OutFile, TableOf, BlobOf, blob_bytes, files_of, table_bytes}

abbrev pub name_in : OutFile → FileName
name_in (TableOf t) = Table t.number
name_in (BlobOf b) = Blob b.number

abbrev pub bytes_in : OutFile → List ℕ
bytes_in (TableOf t) = table_bytes t
bytes_in (BlobOf b) = blob_bytes b

-- the file reads as these bytes, and they are what was written of it
pub record HoldsFile (disk : Disk) (f : OutFile) : Type 0 where
  pub file : File
  pub there : disk (name_of (name_in f)) ≡ Some file
  pub read : file.read ≡ bytes_in f
  pub written : file.front ++ file.handed ≡ bytes_in f

-- the same, all of it on the disk
pub record HoldsSealed (disk : Disk) (f : OutFile) : Type 0 where
  pub file : File
  pub there : disk (name_of (name_in f)) ≡ Some file
  pub read : file.read ≡ bytes_in f
  pub front : file.front ≡ bytes_in f
  pub handed : file.handed ≡ []

-- each file holds what was written into it, and the first so many are sealed
pub record HoldsOut (disk : Disk) (o : Out) : Type 0 where
  pub sealed : AllByRecursion (HoldsSealed disk) (take o.sealed (files_of o))
  pub others : AllByRecursion (HoldsFile disk) (drop o.sealed (files_of o))
