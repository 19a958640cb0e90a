-- What the code finds where reading finds something.
use Rattle.std.specs.Prelude.{◌≡◌, Option, None, Some}
use Rattle.bl_code.specs.Reading.{Input, Read}
use Rattle.bl_edit.specs.declared.edit.NewTable.{NewTable}
use Rattle.bl_edit.specs.declared.field.TableField.{TableField}
use Rattle.bl_edit.specs.declared.field.Field.{Field as FieldFound}
use Rattle.bl_edit.specs.declared.field.Field.TheVariants as found
use Rattle.bl_edit.specs.Reading.{Field, Comparator, LogNumber, NextFile, LastSequence, Fixed, Deleted, Added, Blob, Garbage, Passed, ◌then◌}

-- what a reader of the code finds is what reading finds, and it stands behind it
abbrev pub Finds : {X Y : Type 0} → (X → Y) → Option X → Input → Read Y → Type 0
Finds view (Some x) behind reading = reading ≡ Some (view x, behind)
Finds view None behind reading = reading ≡ None

-- the same of a reader that answers nothing
abbrev pub FindsBehind : Option (Unit {0}) → Input → Option Input → Type 0
FindsBehind (Some x) behind reading = reading ≡ Some behind
FindsBehind None behind reading = reading ≡ None

abbrev pub behind_of : {A : Type 0} → Read A → Option Input
behind_of read = read then λ r. Some r.1

abbrev pub same : {A : Type 0} → A → A
same x = x

abbrev pub table_of : TableField → NewTable
table_of t = record {
  level = t.level;
  number = t.number;
  size = t.size;
  smallest = t.smallest.now;
  largest = t.largest.now;
  least_seq = t.least_seq;
  most_seq = t.most_seq;
  oldest_blob = t.oldest_blob;
}

abbrev pub field_of : FieldFound → Field
field_of found.Comparator = Comparator
field_of (found.LogNumber n) = LogNumber n
field_of (found.NextFile n) = NextFile n
field_of (found.LastSequence n) = LastSequence n
field_of (found.Fixed values) = Fixed values
field_of (found.Deleted d) = Deleted d
field_of (found.Added t) = Added (table_of t)
field_of (found.Blob a) = Blob a
field_of (found.Garbage g) = Garbage g
field_of found.Passed = Passed
