-- How edits are written: each field is a tag and its content.
use Rattle.std.specs.Prelude.{ℕ, ◌==◌, Bool, List, [], ◌++◌, flat_map, codes, Option, None, Some, if◌then◌else◌}
use Rattle.bl_code.specs.Numbers.{varint32, varint64, slice}
use Rattle.bl_edit.specs.Options.{Values}
use Rattle.bl_edit.specs.declared.edit.DeletedTable.{DeletedTable}
use Rattle.bl_edit.specs.declared.edit.NewTable.{NewTable}
use Rattle.bl_edit.specs.declared.edit.BlobAddition.{BlobAddition}
use Rattle.bl_edit.specs.declared.edit.BlobGarbage.{BlobGarbage}
use Rattle.bl_edit.specs.declared.edit.Edit.{Edit}

-- the name of the order of keys by bytes
abbrev pub comparator_name : List ℕ
comparator_name = codes "leveldb.BytewiseComparator"

-- a single field, where there is one
abbrev pub single : {A : Type 0} → ℕ → (A → List ℕ) → Option A → List ℕ
single tag spell None = []
single tag spell (Some x) = varint32 tag ++ spell x

abbrev pub comparator_bytes : Bool → List ℕ
comparator_bytes given = if given then varint32 1 ++ slice comparator_name else []

-- the nine numbers in their order
abbrev pub option_bytes : Values → List ℕ
option_bytes v =
    varint64 v.min_blob_size ++ (varint64 v.blob_file_size ++ (varint64 v.write_buffer ++ (varint64 v.table_size ++ (varint64 v.level0_trigger
    ++ (varint64 v.level_base ++ (varint64 v.level_factor ++ (varint64 v.age_cutoff ++ varint64 v.force_threshold)))))))

abbrev pub options_bytes : Values → List ℕ
options_bytes v = slice (option_bytes v)

abbrev pub deleted_bytes : DeletedTable → List ℕ
deleted_bytes d = varint32 6 ++ (varint32 d.level ++ varint64 d.number)

-- the oldest blob file has the custom tag 4, where there is one; the custom tag 1 ends the table
abbrev pub oldest_bytes : ℕ → List ℕ
oldest_bytes file = if file == 0 then [] else varint32 4 ++ slice (varint64 file)

abbrev pub table_bytes : NewTable → List ℕ
table_bytes t =
    varint32 103 ++ (varint32 t.level ++ (varint64 t.number ++ (varint64 t.size ++ (slice t.smallest ++ (slice t.largest
    ++ (varint64 t.least_seq ++ (varint64 t.most_seq ++ (oldest_bytes t.oldest_blob ++ varint32 1))))))))

-- checksum method and value are empty; the custom tag 0 ends a blob file
abbrev pub addition_bytes : BlobAddition → List ℕ
addition_bytes a = varint32 400 ++ (varint64 a.number ++ (varint64 a.count ++ (varint64 a.bytes ++ (slice [] ++ (slice [] ++ varint32 0)))))

abbrev pub garbage_bytes : BlobGarbage → List ℕ
garbage_bytes g = varint32 401 ++ (varint64 g.number ++ (varint64 g.count ++ (varint64 g.bytes ++ varint32 0)))

-- the fields that stand once, and the lists
abbrev pub singles_bytes : Edit → List ℕ
singles_bytes e =
    comparator_bytes e.comparator ++ (single 2 varint64 e.log_number ++ (single 3 varint64 e.next_file ++ (single 4 varint64 e.last_sequence
    ++ single 9216 options_bytes e.options)))

abbrev pub lists_bytes : Edit → List ℕ
lists_bytes e = flat_map deleted_bytes e.deleted ++ (flat_map table_bytes e.added ++ (flat_map addition_bytes e.blobs ++ flat_map garbage_bytes e.garbage))

-- the spelling that is written
unfoldable pub edit_bytes : Edit → List ℕ
edit_bytes e = singles_bytes e ++ lists_bytes e
