-- The bounds of what an edit holds.
use Rattle.std.specs.Prelude.{ℕ, ◌^◌, ◌<◌, ◌%◌, ◌==◌, ◌&&◌, ◌||◌, nat_lt, nat_le, Bool, IsTrue, List, length, IfSome}
use Rattle.std.specs.List.{AllByRecursion}
use Rattle.bl_code.specs.Order.{number_part}
use Rattle.bl_edit.specs.Options.{AreInRange, is_between}
use Rattle.bl_edit.specs.declared.edit.DeletedTable.{DeletedTable}
use Rattle.bl_edit.specs.declared.edit.NewTable.{NewTable}
use Rattle.bl_edit.specs.declared.edit.BlobAddition.{BlobAddition}
use Rattle.bl_edit.specs.declared.edit.BlobGarbage.{BlobGarbage}
use Rattle.bl_edit.specs.declared.edit.Edit.{Edit}

-- numbers that a file may have, and those that a level has
abbrev pub is_number : ℕ → Bool
is_number n = is_between 1 999999999999999 n

abbrev pub is_level : ℕ → Bool
is_level n = nat_le n 6

abbrev pub is_seq : ℕ → Bool
is_seq n = nat_lt n (2 ^ 56)

-- the kinds of internal keys: a deletion, a value, a blob index
abbrev pub is_kind : ℕ → Bool
is_kind n = (n == 0) || (n == 1) || (n == 0x11)

-- the bytes of an internal key: 1 to 65,535 of the user key, seven of the sequence and one of the kind
abbrev pub is_key : List ℕ → Bool
is_key key = is_between 9 65543 (length key) && is_kind (number_part key % 256)

abbrev pub deletion_fits : DeletedTable → Bool
deletion_fits d = is_level d.level && is_number d.number

-- an oldest blob file of 0 stands for none
abbrev pub table_fits : NewTable → Bool
table_fits t =
    is_level t.level && is_number t.number && is_key t.smallest && is_key t.largest && is_seq t.least_seq && is_seq t.most_seq
    && ((t.oldest_blob == 0) || is_number t.oldest_blob)

abbrev pub addition_fits : BlobAddition → Bool
addition_fits a = is_number a.number

abbrev pub garbage_fits : BlobGarbage → Bool
garbage_fits g = is_number g.number

-- an edit in bounds
pub record IsEdit (e : Edit) : Type 0 where
  pub last_sequence : IfSome e.last_sequence (λ n. IsTrue (is_seq n))
  pub options : IfSome e.options AreInRange
  pub deleted : AllByRecursion (λ d. IsTrue (deletion_fits d)) e.deleted
  pub added : AllByRecursion (λ t. IsTrue (table_fits t)) e.added
  pub blobs : AllByRecursion (λ a. IsTrue (addition_fits a)) e.blobs
  pub garbage : AllByRecursion (λ g. IsTrue (garbage_fits g)) e.garbage

-- the numbers that have no bound of their own fit 64 bits
pub record FitsWords (e : Edit) : Type 0 where
  pub log_number : IfSome e.log_number (λ n. n < 2 ^ 64)
  pub next_file : IfSome e.next_file (λ n. n < 2 ^ 64)
  pub sizes : AllByRecursion (λ t. t.size < 2 ^ 64) e.added
  pub totals : AllByRecursion (λ a. (a.count < 2 ^ 64) × (a.bytes < 2 ^ 64)) e.blobs
  pub garbage : AllByRecursion (λ g. (g.count < 2 ^ 64) × (g.bytes < 2 ^ 64)) e.garbage
