-- Reading edits: fields one after the other to the last byte, and the first field that is none.
use Rattle.std.specs.Prelude.{◌≡◌, nat_eq, ℕ, zero, suc, ◌/◌, ◌%◌, ◌^◌, ◌==◌, Bool, true, false, List, [], ◌∷◌, ◌++◌, length, Option, None, Some, option_and_then, Result, Ok, Err, if◌then◌else◌}
use Rattle.std.specs.Cmp.Lexicographic.{pointwise}
use Rattle.bl_code.specs.Reading.{Input, Read, from_start, take_varint32, take_varint64, take_slice, or_fault, ◌>>=◌}
use Rattle.bl_edit.specs.Options.{Values, max_size, is_between}
use Rattle.bl_edit.specs.Bounds.{deletion_fits, table_fits, addition_fits, garbage_fits, is_seq, is_number}
use Rattle.bl_edit.specs.Spelling.{comparator_name}
use Rattle.bl_edit.specs.declared.edit.DeletedTable.{DeletedTable}
use Rattle.bl_edit.specs.declared.edit.NewTable.{NewTable}
use Rattle.bl_edit.specs.declared.edit.BlobAddition.{BlobAddition}
use Rattle.bl_edit.specs.declared.edit.BlobGarbage.{BlobGarbage}
use Rattle.bl_edit.specs.declared.edit.Edit.{Edit}
use Rattle.bl_edit.specs.declared.error.BadEdit.{BadEdit}
use Rattle.bl_edit.specs.declared.error.BadEdit.TheVariants.{At, OutOfMemory}

-- a reader goes on where another ended, or finds nothing
infixl 10 ◌then◌
abbrev pub ◌then◌ : {A B : Type 0} → Option A → (A → Option B) → Option B
o then f = option_and_then f o

-- what was read, where it passes a test
abbrev pub only_if : {A : Type 0} → (A → Bool) → Read A → Read A
only_if test read = read then λ r. if test r.0 then Some r else None

-- a value that was read up to the last byte
abbrev pub to_the_end : {A : Type 0} → Read A → Option A
to_the_end read = read then λ r. if length r.1.left == 0 then Some r.0 else None

-- ---- fields that stand once

-- the order of keys by bytes is the only one
abbrev pub is_comparator : List ℕ → Bool
is_comparator name = pointwise nat_eq name comparator_name

abbrev pub comparator_at : Input → Read (List ℕ)
comparator_at input = only_if is_comparator (take_slice input)

abbrev pub between : ℕ → ℕ → Input → Read ℕ
between low high input = only_if (is_between low high) (take_varint64 input)

-- nine numbers in their ranges
unfoldable pub values_at : Input → Read Values
values_at input =
    between 0 (2 ^ 32) input then λ a. between 1 max_size a.1 then λ b. between 1 max_size b.1 then λ c. between 1 max_size c.1 then λ d.
    between 1 1000 d.1 then λ e. between 1 max_size e.1 then λ f. between 2 20 f.1 then λ g. between 0 100 g.1 then λ h. between 1 100 h.1 then λ i.
    Some (
      record {
        min_blob_size = a.0;
        blob_file_size = b.0;
        write_buffer = c.0;
        table_size = d.0;
        level0_trigger = e.0;
        level_base = f.0;
        level_factor = g.0;
        age_cutoff = h.0;
        force_threshold = i.0;
      },
      i.1,
    )

abbrev pub values_in : List ℕ → Option Values
values_in bytes = to_the_end (values_at (from_start bytes))

abbrev pub options_at : Input → Read Values
options_at input = take_slice input then λ s. values_in s.0 then λ v. Some (v, s.1)

-- ---- tables

unfoldable pub deleted_at : Input → Read DeletedTable
deleted_at input =
    only_if deletion_fits (
    take_varint32 input then λ level. take_varint64 level.1 then λ number.
    Some (record { level = level.0; number = number.0 }, number.1)
    )

-- a custom tag that may not be passed over
abbrev pub is_required : ℕ → Bool
is_required tag = (tag / 2 ^ 6) % 2 == 1

-- the number of a blob file, and nothing more
abbrev pub file_in : List ℕ → Option ℕ
file_in bytes = to_the_end (only_if is_number (take_varint64 (from_start bytes)))

-- what a custom field, a tag and a slice, makes of the oldest blob file before it
abbrev pub custom_of : ℕ → ℕ → List ℕ → Option ℕ
custom_of oldest tag content = if tag == 4 then file_in content else if is_required tag then None else Some oldest

-- The custom fields of a table, up to the tag 1: the oldest blob file is the one given last, or the one known before.
unfoldable pub table_customs : ℕ → ℕ → Input → Read ℕ
table_customs zero oldest input = None
table_customs (suc n) oldest input =
    take_varint32 input then λ tag. if tag.0 == 1 then Some (oldest, tag.1)
    else (take_slice tag.1 then λ content. custom_of oldest tag.0 content.0 then λ known. table_customs n known content.1)

-- there are no more of them than bytes
abbrev pub oldest_at : Input → Read ℕ
oldest_at input = table_customs (length input.left) 0 input

unfoldable pub table_at : Input → Read NewTable
table_at input =
    only_if table_fits (
    take_varint32 input then λ level. take_varint64 level.1 then λ number. take_varint64 number.1 then λ size.
    take_slice size.1 then λ smallest. take_slice smallest.1 then λ largest.
    take_varint64 largest.1 then λ least. take_varint64 least.1 then λ most. oldest_at most.1 then λ oldest.
    Some (
      record {
        level = level.0;
        number = number.0;
        size = size.0;
        smallest = smallest.0;
        largest = largest.0;
        least_seq = least.0;
        most_seq = most.0;
        oldest_blob = oldest.0;
      },
      oldest.1,
    )
    )

-- ---- blob files

-- the custom fields of a blob file, up to the tag 0; none is known
unfoldable pub blob_customs : ℕ → Input → Option Input
blob_customs zero input = None
blob_customs (suc n) input =
    take_varint32 input then λ tag. if tag.0 == 0 then Some tag.1
    else (take_slice tag.1 then λ content. if is_required tag.0 then None else blob_customs n content.1)

abbrev pub behind_customs : Input → Option Input
behind_customs input = blob_customs (length input.left) input

-- number, count, bytes
abbrev pub counts_at : Input → Read (ℕ × ℕ × ℕ)
counts_at input = take_varint64 input then λ number. take_varint64 number.1 then λ count. take_varint64 count.1 then λ bytes.
    Some ((number.0, count.0, bytes.0), bytes.1)

-- method and value of the checksum are passed over
unfoldable pub addition_at : Input → Read BlobAddition
addition_at input =
    only_if addition_fits (
    counts_at input then λ counts. take_slice counts.1 then λ method. take_slice method.1 then λ checksum. behind_customs checksum.1 then λ behind.
    Some (record { number = counts.0.0; count = counts.0.1; bytes = counts.0.2 }, behind)
    )

unfoldable pub garbage_at : Input → Read BlobGarbage
garbage_at input =
    only_if garbage_fits (
    counts_at input then λ counts. behind_customs counts.1 then λ behind.
    Some (record { number = counts.0.0; count = counts.0.1; bytes = counts.0.2 }, behind)
    )

-- ---- edits

pub data Field : Type 0 where
  Comparator : Field
  LogNumber : (n : ℕ) → Field
  NextFile : (n : ℕ) → Field
  LastSequence : (n : ℕ) → Field
  Fixed : (values : Values) → Field
  Deleted : (d : DeletedTable) → Field
  Added : (t : NewTable) → Field
  Blob : (a : BlobAddition) → Field
  Garbage : (g : BlobGarbage) → Field
  Passed : Field

-- a field made of what was read
abbrev pub as_field : {A : Type 0} → (A → Field) → Read A → Read Field
as_field f read = read then λ r. Some (f r.0, r.1)

-- an unknown field that may be passed over has the bit 13 in its tag, and a slice as its content
abbrev pub passed_at : ℕ → Input → Read Field
passed_at tag input = if (tag / 2 ^ 13) % 2 == 1 then as_field (λ _. Passed) (take_slice input) else None

-- the content of a field of this tag
unfoldable pub field_at : ℕ → Input → Read Field
field_at tag input =
    if tag == 1 then as_field (λ _. Comparator) (comparator_at input)
    else if tag == 2 then as_field LogNumber (take_varint64 input)
    else if tag == 3 then as_field NextFile (take_varint64 input)
    else if tag == 4 then as_field LastSequence (only_if is_seq (take_varint64 input))
    else if tag == 6 then as_field Deleted (deleted_at input)
    else if tag == 103 then as_field Added (table_at input)
    else if tag == 400 then as_field Blob (addition_at input)
    else if tag == 401 then as_field Garbage (garbage_at input)
    else if tag == 9216 then as_field Fixed (options_at input)
    else passed_at tag input

-- the edit of no field
abbrev pub no_field : Edit
no_field = record {
  comparator = false;
  log_number = None;
  next_file = None;
  last_sequence = None;
  options = None;
  deleted = [];
  added = [];
  blobs = [];
  garbage = [];
}

-- an edit with one field more: a single one takes the place of an earlier one, any other joins its list
abbrev pub with_field : Edit → Field → Edit
with_field e Comparator = record e { comparator = true }
with_field e (LogNumber n) = record e { log_number = Some n }
with_field e (NextFile n) = record e { next_file = Some n }
with_field e (LastSequence n) = record e { last_sequence = Some n }
with_field e (Fixed values) = record e { options = Some values }
with_field e (Deleted d) = record e { deleted = e.deleted ++ d ∷ [] }
with_field e (Added t) = record e { added = e.added ++ t ∷ [] }
with_field e (Blob a) = record e { blobs = e.blobs ++ a ∷ [] }
with_field e (Garbage g) = record e { garbage = e.garbage ++ g ∷ [] }
with_field e Passed = e

-- Fields to the last byte; there are no more of them than bytes. The fault has the field's tag, 0 where that is cut, and the tag's place.
unfoldable pub fields_at : ℕ → Edit → Input → Result Edit BadEdit
fields_at zero e input = Ok e
fields_at (suc n) e input = if length input.left == 0 then Ok e else (do
  tag ← or_fault (At 0 input.place) (take_varint32 input)
  field ← or_fault (At tag.0 input.place) (field_at tag.0 tag.1)
  fields_at n (with_field e field.0) field.1)

-- reading an edit from all of the bytes, with the first fault
unfoldable pub read_edit : List ℕ → Result Edit BadEdit
read_edit bytes = fields_at (length bytes) no_field (from_start bytes)

-- what decoding answers is what reading gives, unless memory ran out
abbrev pub Decodes : Result Edit BadEdit → Result Edit BadEdit → Type 0
Decodes (Ok e) reading = reading ≡ Ok e
Decodes (Err OutOfMemory) reading = Unit {0}
Decodes (Err (At tag place)) reading = reading ≡ Err (At tag place)
