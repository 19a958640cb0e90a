-- Tables as a version names them, their values in their place, and what refers to blob files.
use Rattle.std.specs.Prelude.{◌≡◌, ℕ, ◌+◌, ◌<◌, ◌≤◌, ◌==◌, ◌&&◌, Bool, min, max, List, [], ◌∷◌, length, flat_map, map, Option, None, Some, IfSome, unwrap_or}
use Rattle.std.specs.List.{AllByRecursion, fold}
use Rattle.std.specs.Option.{option_map}
use Rattle.bl_site.specs.Disk.{Folder}
use Rattle.bl_entry.specs.declared.key.Kind.{Kind}
use Rattle.bl_entry.specs.declared.key.Kind.TheVariants.{Deletion, Value, BlobRef}
use Rattle.bl_entry.specs.declared.key.Entry.{Entry}
use Rattle.bl_entry.specs.Keys.{key_bytes}
use Rattle.bl_entry.specs.Entries.{IsProper, last_of}
use Rattle.bl_blob.specs.declared.blob.Totals.{Totals}
use Rattle.bl_edit.specs.Options.{Values}
use Rattle.bl_edit.specs.declared.edit.NewTable.{NewTable}
use Rattle.bl_out.specs.Finding.{◌then◌}
use Rattle.bl_out.specs.Files.{table_at}
use Rattle.bl_out.specs.References.{Reference, index_of, references, count_of, bytes_of}

-- a table of a version, and its entries
pub record TableFile : Type 0 where
  pub meta : NewTable
  pub entries : List Entry

-- the file is there, has the size that the version says, and is a table
abbrev pub table_in : Folder → NewTable → Option TableFile
table_in folder t = table_at folder t.number t.size then λ es. Some (record { meta = t; entries = es })

-- the entries of all tables
abbrev pub table_entries : List TableFile → List Entry
table_entries tables = flat_map (λ t. t.entries) tables

-- ---- tables as the version names them

-- the first of a list, where there is one
abbrev pub first_of : {A : Type 0} → List A → Option A
first_of [] = None
first_of (x ∷ xs) = Some x

-- the least and the greatest of some numbers, where there is one
abbrev pub least_of : List ℕ → Option ℕ
least_of [] = None
least_of (n ∷ ns) = Some (fold min n ns)

abbrev pub greatest_of : List ℕ → Option ℕ
greatest_of [] = None
greatest_of (n ∷ ns) = Some (fold max n ns)

-- the least number of a blob file that these entries name, or 0 where they name none
abbrev pub oldest_of : List Entry → ℕ
oldest_of es = unwrap_or (least_of (map (λ r. r.index.file) (references es))) 0

-- its least and greatest key, its least and greatest sequence, and its oldest blob file are those that the version says
pub record IsAsNamed (t : TableFile) : Type 0 where
  pub smallest : option_map (λ e. key_bytes e.key) (first_of t.entries) ≡ Some t.meta.smallest
  pub largest : option_map (λ e. key_bytes e.key) (last_of t.entries) ≡ Some t.meta.largest
  pub least : least_of (map (λ e. e.key.seq) t.entries) ≡ Some t.meta.least_seq
  pub most : greatest_of (map (λ e. e.key.seq) t.entries) ≡ Some t.meta.most_seq
  pub oldest : oldest_of t.entries ≡ t.meta.oldest_blob

-- keys and values are in bounds, the values of deletions are empty, and blob indexes are in form
abbrev pub IsTableProper : TableFile → Type 0
IsTableProper t = AllByRecursion IsProper t.entries

-- of one user key in two levels, what stands in the upper one has the greater sequence
abbrev pub IsNewerAbove : TableFile → TableFile → Type 0
IsNewerAbove a b =
    a.meta.level < b.meta.level → AllByRecursion (λ x. AllByRecursion (λ y. x.key.user ≡ y.key.user → y.key.seq < x.key.seq) b.entries) a.entries

-- ---- what refers to blob files

-- two references are to one record
abbrev pub same_record : Reference → Reference → Bool
same_record a b = (a.index.file == b.index.file) && (a.index.offset == b.index.offset)

-- garbage of the blob file of this number and references to it make its totals, in count and in bytes
pub record IsExact (es : List Entry) (number : ℕ) (garbage total : Totals) : Type 0 where
  pub count : garbage.count + count_of number es ≡ total.count
  pub bytes : garbage.bytes + bytes_of number es ≡ total.bytes

-- ---- values in their place

-- from how many bytes on a table's values stand in blob files
abbrev pub threshold_of : Values → NewTable → ℕ
threshold_of options t = options.min_blob_size

-- a value in the table is shorter than the threshold, and one in a blob file is not
abbrev pub IsPlaced : ℕ → Kind → Entry → Type 0
IsPlaced threshold Deletion e = Unit {0}
IsPlaced threshold Value e = length e.value < threshold
IsPlaced threshold BlobRef e = IfSome (index_of e) (λ index. threshold ≤ index.size)

-- so it is with each entry of a table
abbrev pub IsTablePlaced : Values → TableFile → Type 0
IsTablePlaced options t = AllByRecursion (λ e. IsPlaced (threshold_of options t.meta) e.key.kind e) t.entries
