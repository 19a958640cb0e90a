-- What a flush makes of the entries of a memory: at most one table, and blob files.
use Rattle.std.specs.Prelude.{◌≡◌, ℕ, ◌+◌, ◌^◌, ◌<◌, ◌≤◌, false, IsTrue, List, length, map, flat_map, Some}
use Rattle.std.specs.Ordering.{nat_cmp}
use Rattle.std.specs.List.{AllByRecursion}
use Rattle.std.specs.List.Sorted.{IsStrictlySortedBy}
use Rattle.bl_site.specs.Disk.{Folder}
use Rattle.bl_names.specs.declared.name.FileName.TheVariants.{Blob}
use Rattle.bl_entry.specs.declared.key.Entry.{Entry}
use Rattle.bl_entry.specs.Kept.{kept}
use Rattle.bl_blob.specs.BlobFile.{IsBlobFile, Record, totals_of}
use Rattle.bl_edit.specs.declared.edit.BlobAddition.{BlobAddition}
use Rattle.bl_edit.specs.declared.edit.Edit.{Edit}
use Rattle.bl_edit.specs.Bounds.{is_number}
use Rattle.bl_edit.specs.Reading.{no_field}
use Rattle.bl_out.specs.Files.{file, records_at}
use Rattle.bl_out.specs.Tables.{IsAsNamed, TableFile, table_entries, table_in}
use Rattle.bl_out.specs.Written.{Stored, Writes, stored_of}

-- a new blob file: what an edit says of it, and its records
pub record NewBlob : Type 0 where
  pub named : BlobAddition
  pub records : List Record

-- what a flush makes: tables and blob files
pub record Flushed : Type 0 where
  pub tables : List TableFile
  pub blobs : List NewBlob

-- the records of new blob files, one file behind the other
abbrev pub stored : List NewBlob → List Stored
stored blobs = flat_map (λ b. stored_of b.named.number b.records) blobs

-- The edit of the job adds the tables and the blob files, and nothing else.
abbrev pub job_edit : Flushed → Edit
job_edit f = record no_field { added = map (λ t. t.meta) f.tables; blobs = map (λ b. b.named) f.blobs }

-- a table at level 0 that is as it is named, with a number from this one on
pub record IsNewTable (from : ℕ) (t : TableFile) : Type 0 where
  pub level : t.meta.level ≡ 0
  pub number : from ≤ t.meta.number
  pub named : IsAsNamed t

-- a blob file of at least one record, with its totals, whose number is one that a file may have, from this one on; with header and footer it has less than 2 ^ 63 bytes
pub record IsNewBlob (from : ℕ) (b : NewBlob) : Type 0 where
  pub number : from ≤ b.named.number
  pub fits : IsTrue (is_number b.named.number)
  pub some : 1 ≤ length b.records
  pub totals : totals_of b.records ≡ record { count = b.named.count; bytes = b.named.bytes }
  pub size : 62 + b.named.bytes < 2 ^ 63

-- Of the entries of a memory a flush keeps those that these snapshots or a later reader may see, and writes them into at most one table at level 0, the values from the threshold on into blob files; their numbers are from this one on, those of blob files ascending.
pub record IsFlush (threshold from : ℕ) (snapshots : List ℕ) (memory : List Entry) (f : Flushed) : Type 0 where
  pub one : length f.tables ≤ 1
  pub tables : AllByRecursion (IsNewTable from) f.tables
  pub blobs : AllByRecursion (IsNewBlob from) f.blobs
  pub ascend : IsStrictlySortedBy nat_cmp (map (λ b. b.named.number) f.blobs)
  pub writes : Writes threshold (stored f.blobs) (kept snapshots false memory) (table_entries f.tables)

-- a blob file of these records is there, spelled as the grammar of blob files says, and is read as these
pub record HasBlob (folder : Folder) (b : NewBlob) : Type 0 where
  pub bytes : List ℕ
  pub there : file folder (Blob b.named.number) ≡ Some bytes
  pub spelled : IsBlobFile bytes b.records
  pub reads : records_at folder b.named.number ≡ Some b.records

-- The folder has the files of a flush.
pub record HasFlush (folder : Folder) (f : Flushed) : Type 0 where
  pub tables : AllByRecursion (λ t. table_in folder t.meta ≡ Some t) f.tables
  pub blobs : AllByRecursion (HasBlob folder) f.blobs
