-- What reading gives of tables and of blob files.
use Rattle.std.specs.Prelude.{◌≡◌, ℕ, ◌==◌, ◌&&◌, Bool, List, length, find, Option, None, Some, option_and_then, Ok, if◌then◌else◌}
use Rattle.std.specs.List.{AllByRecursion}
use Rattle.std.specs.Result.{result_ok}
use Rattle.bl_code.specs.Order.{same_bytes}
use Rattle.bl_entry.specs.Entries.{IsProper}
use Rattle.bl_entry.specs.Items.{each_of, entry_of}
use Rattle.bl_entry.specs.declared.key.Entry.{Entry}
use Rattle.bl_blob.specs.BlobFile.{IsBlobFile, Record, blobs_of}
use Rattle.bl_blob.specs.declared.blob.BlobAt.{BlobAt}
use Rattle.bl_index.specs.declared.index.BlobIndex.{BlobIndex}
use Rattle.bl_table.specs.Whole.{read_table}
use Rattle.bl_cache.specs.Reading.{read_run, read_value}

-- the entries of a table of these bytes, where each of its keys is an internal key
abbrev pub table_entries : List ℕ → Option (List Entry)
table_entries bytes = option_and_then (λ items. each_of (λ item. entry_of item.key item.value) items) (result_ok (read_table bytes))

-- the bytes, where there are so many
abbrev pub of_size : ℕ → List ℕ → Option (List ℕ)
of_size size bytes = if length bytes == size then Some bytes else None

-- the entries of a table file, where it is there and has this size
abbrev pub table_in : ℕ → Option (List ℕ) → Option (List Entry)
table_in size file = option_and_then table_entries (option_and_then (of_size size) file)

-- A run has the entries of the table,
abbrev pub RunsAreTables : Type 0
RunsAreTables = (size : ℕ) (file : Option (List ℕ)) (es : List Entry) → read_run size file ≡ Ok es → table_in size file ≡ Some es

-- and a table whose entries are in bounds is read as a run.
abbrev pub TablesAreRuns : Type 0
TablesAreRuns = (size : ℕ) (file : Option (List ℕ)) (es : List Entry) → table_in size file ≡ Some es → AllByRecursion IsProper es → read_run size file ≡ Ok es

-- the record at the index's offset is of this user key, and its value of the index's size
abbrev pub is_named : List ℕ → BlobIndex → BlobAt → Bool
is_named key index r = (r.offset == index.offset) && same_bytes r.key key && (length r.value == index.size)

-- What an index names in a blob file is the value that is read.
abbrev pub NamedAreRead : Type 0
NamedAreRead = (bytes : List ℕ) (rs : List Record) (key : List ℕ) (index : BlobIndex) (r : BlobAt) → IsBlobFile bytes rs → find (is_named key index) (blobs_of rs) ≡ Some r
    → read_value key index (Some bytes) ≡ Ok r.value
