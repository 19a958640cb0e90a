-- Worked rows of edits.
use Rattle.std.proofs.Common.{◌≡◌, ℕ, List, [], ◌∷◌, ◌++◌, length, refl, Some, true}
use Rattle.std.specs.Prelude.{Ok, Err}
use Rattle.bl_code.specs.Numbers.{varint}
use Rattle.bl_code.specs.Reading.{take_bytes, varint_in}
use Rattle.bl_edit.specs.declared.edit.Edit.{Edit}
use Rattle.bl_edit.specs.declared.error.BadEdit.TheVariants.{At}
use Rattle.bl_edit.specs.Spelling.{edit_bytes}
use Rattle.bl_edit.specs.Reading.{no_field, read_edit, fields_at, field_at, values_at, deleted_at, table_at, addition_at, garbage_at, table_customs, blob_customs}

key : List ℕ
key = 97 ∷ 0x11 ∷ 1 ∷ 0 ∷ 0 ∷ 0 ∷ 0 ∷ 0 ∷ 0 ∷ []

-- the edit that a first flush of one value installs
flushed : Edit
unfolding key
flushed = record no_field {
  log_number = Some 3;
  next_file = Some 6;
  last_sequence = Some 1;
  added = record { level = 0; number = 4; size = 118; smallest = key; largest = key; least_seq = 1; most_seq = 1; oldest_blob = 5 } ∷ [];
  blobs = record { number = 5; count = 1; bytes = 36 } ∷ [];
}

spelled : edit_bytes flushed ≡ (2 ∷ 3 ∷ 3 ∷ 6 ∷ 4 ∷ 1 ∷ 0x67 ∷ 0 ∷ 4 ∷ 0x76 ∷ 9 ∷ key ++ 9 ∷ key ++ 1 ∷ 1 ∷ 4 ∷ 1 ∷ 5 ∷ 1 ∷ [])
    ++ 0x90 ∷ 3 ∷ 5 ∷ 1 ∷ 0x24 ∷ 0 ∷ 0 ∷ 0 ∷ []
unfolding key flushed edit_bytes varint
spelled = refl

size : length (edit_bytes flushed) ≡ 44
unfolding key flushed edit_bytes varint
size = refl

read_again : read_edit (edit_bytes flushed) ≡ Ok flushed
unfolding key flushed edit_bytes varint take_bytes varint_in read_edit fields_at field_at table_at addition_at table_customs blob_customs
read_again = refl

-- the edit of a fresh folder
first : Edit
first = record no_field {
  comparator = true;
  log_number = Some 2;
  next_file = Some 3;
  last_sequence = Some 0;
  options = Some (record {
    min_blob_size = 0;
    blob_file_size = 268435456;
    write_buffer = 67108864;
    table_size = 67108864;
    level0_trigger = 4;
    level_base = 268435456;
    level_factor = 10;
    age_cutoff = 25;
    force_threshold = 100;
  });
}

first_size : length (edit_bytes first) ≡ 60
unfolding first edit_bytes varint
first_size = refl

first_again : read_edit (edit_bytes first) ≡ Ok first
unfolding first edit_bytes varint take_bytes varint_in read_edit fields_at field_at values_at
first_again = refl

unknown : read_edit (5 ∷ 0 ∷ []) ≡ Err (At 5 0)
unfolding take_bytes varint_in read_edit fields_at field_at
unknown = refl

level_seven : read_edit (6 ∷ 7 ∷ 4 ∷ []) ≡ Err (At 6 0)
unfolding take_bytes varint_in read_edit fields_at field_at deleted_at
level_seven = refl

-- a field that is passed over, and a cut tag behind it
passed : read_edit (0x81 ∷ 0x40 ∷ 1 ∷ 7 ∷ []) ≡ Ok no_field
unfolding take_bytes varint_in read_edit fields_at field_at
passed = refl

cut_tag : read_edit (2 ∷ 3 ∷ 0x90 ∷ []) ≡ Err (At 0 2)
unfolding take_bytes varint_in read_edit fields_at field_at
cut_tag = refl

-- a garbage record; the custom tag 4 is unknown there, and the tag 64 may not be passed over
garbage : read_edit (0x91 ∷ 3 ∷ 5 ∷ 1 ∷ 34 ∷ 4 ∷ 1 ∷ 9 ∷ 0 ∷ []) ≡ Ok (record no_field { garbage = record { number = 5; count = 1; bytes = 34 } ∷ [] })
unfolding take_bytes varint_in read_edit fields_at field_at garbage_at blob_customs
garbage = refl

required : read_edit (2 ∷ 3 ∷ 0x91 ∷ 3 ∷ 5 ∷ 1 ∷ 34 ∷ 0x40 ∷ 0 ∷ 0 ∷ []) ≡ Err (At 401 2)
unfolding take_bytes varint_in read_edit fields_at field_at garbage_at blob_customs
required = refl
