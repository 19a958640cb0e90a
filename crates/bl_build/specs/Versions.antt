-- One edit applied to a version, and the version of a list of edits.
use Rattle.std.specs.Prelude.{◌≡◌, ℕ, ◌+◌, ◌==◌, ◌&&◌, ◌||◌, not, nat_lt, Bool, IsTrue, false, List, [], ◌∷◌, map, filter, find, count_by, Option, None, Some, Result, Ok, Err, if◌then◌else◌}
use Rattle.std.specs.List.{list_any, AllByRecursion, IsDistinct}
use Rattle.std.specs.Option.{option_map}
use Rattle.bl_code.specs.Order.{bytes_le, user_part}
use Rattle.bl_code.specs.Reading.{◌>>=◌}
use Rattle.bl_edit.specs.declared.edit.DeletedTable.{DeletedTable}
use Rattle.bl_edit.specs.declared.edit.NewTable.{NewTable}
use Rattle.bl_edit.specs.declared.edit.BlobAddition.{BlobAddition}
use Rattle.bl_edit.specs.declared.edit.BlobGarbage.{BlobGarbage}
use Rattle.bl_edit.specs.declared.edit.Edit.{Edit}
use Rattle.bl_edit.specs.Bounds.{IsEdit, is_number, table_fits}
use Rattle.bl_build.specs.declared.meta.BlobMeta.{BlobMeta}
use Rattle.bl_build.specs.declared.error.BadVersion.{BadVersion}
use Rattle.bl_build.specs.declared.error.BadVersion.TheVariants.{UnknownTable, Twice, Overlap, UnknownBlob, Overflow, OutOfMemory}
use Rattle.bl_build.specs.Listing.{Listing, nothing, Ascends, table_rank, blob_number, all_placed}

-- ---- tables

-- this table, at this level
abbrev pub is_deleted : DeletedTable → NewTable → Bool
is_deleted d t = (t.level == d.level) && (t.number == d.number)

-- the tables that an edit leaves
abbrev pub without : List DeletedTable → List NewTable → List NewTable
without ds tables = filter (λ t. not (list_any (λ d. is_deleted d t) ds)) tables

abbrev pub with_tables : List NewTable → List NewTable → List NewTable
with_tables added tables = all_placed table_rank added tables

-- a table's least and greatest user key
abbrev pub first_user : NewTable → List ℕ
first_user t = user_part t.smallest

abbrev pub last_user : NewTable → List ℕ
last_user t = user_part t.largest

-- some user key may stand in both
abbrev pub overlap : NewTable → NewTable → Bool
overlap a b = bytes_le (first_user a) (last_user b) && bytes_le (first_user b) (last_user a)

-- both are in one level, from level 1 on, and overlap
abbrev pub clash : NewTable → NewTable → Bool
clash a b = not (a.level == 0) && (b.level == a.level) && overlap a b

-- ---- blob files

-- a new blob file has no garbage, and nothing is linked to it yet
abbrev pub new_blob : BlobAddition → BlobMeta
new_blob a = record { number = a.number; total = record { count = a.count; bytes = a.bytes }; garbage = record { count = 0; bytes = 0 }; linked = 0 }

abbrev pub with_blobs : List BlobAddition → List BlobMeta → List BlobMeta
with_blobs added blobs = all_placed blob_number (map new_blob added) blobs

-- more garbage for a file
abbrev pub add_garbage : BlobGarbage → BlobMeta → BlobMeta
add_garbage g b = if b.number == g.number then record b { garbage = record { count = b.garbage.count + g.count; bytes = b.garbage.bytes + g.bytes } } else b

abbrev pub with_garbage : List BlobGarbage → List BlobMeta → List BlobMeta
with_garbage [] blobs = blobs
with_garbage (g ∷ more) blobs = with_garbage more (map (add_garbage g) blobs)

-- a table is linked to its oldest blob file only
abbrev pub linked_to : List NewTable → BlobMeta → BlobMeta
linked_to tables b = record b { linked = count_by (λ t. t.oldest_blob == b.number) tables }

abbrev pub with_links : List NewTable → List BlobMeta → List BlobMeta
with_links tables blobs = map (linked_to tables) blobs

-- a file of which nothing is left, and to which no table is linked
abbrev pub is_spent : BlobMeta → Bool
is_spent b = (b.linked == 0) && (b.garbage.count == b.total.count) && (b.garbage.bytes == b.total.bytes)

-- The files below the least linked one are left out, all of them where none is linked; and then the spent ones.
abbrev pub from_linked : List BlobMeta → List BlobMeta
from_linked [] = []
from_linked (b ∷ bs) = if b.linked == 0 then from_linked bs else b ∷ bs

abbrev pub still_needed : List BlobMeta → List BlobMeta
still_needed blobs = filter (λ b. not (is_spent b)) (from_linked blobs)

-- ---- refusals, each with the number of the file

-- the first number that stands among those before it
abbrev pub first_twice : List ℕ → List ℕ → Option ℕ
first_twice there [] = None
first_twice there (n ∷ ns) = if list_any (λ m. m == n) there then Some n else first_twice (n ∷ there) ns

-- the first deleted table that is not at that level; the first garbage of a file that is not there
abbrev pub first_unknown : List NewTable → List DeletedTable → Option ℕ
first_unknown tables ds = option_map (λ d. d.number) (find (λ d. not (list_any (is_deleted d) tables)) ds)

abbrev pub first_unknown_blob : List BlobMeta → List BlobGarbage → Option ℕ
first_unknown_blob blobs gs = option_map (λ g. g.number) (find (λ g. not (list_any (λ b. b.number == g.number) blobs)) gs)

-- the first table that clashes with one that is there or stands before it
abbrev pub first_overlap : List NewTable → List NewTable → Option ℕ
first_overlap there [] = None
first_overlap there (t ∷ ts) = if list_any (clash t) there then Some t.number else first_overlap (t ∷ there) ts

abbrev pub is_over : BlobMeta → Bool
is_over b = nat_lt b.total.count b.garbage.count || nat_lt b.total.bytes b.garbage.bytes

-- the first garbage that takes a file's above its totals
abbrev pub first_over : List BlobMeta → List BlobGarbage → Option ℕ
first_over blobs [] = None
first_over blobs (g ∷ gs) =
    if list_any (λ b. (b.number == g.number) && is_over b) (map (add_garbage g) blobs) then Some g.number else first_over (map (add_garbage g) blobs) gs

abbrev pub table_numbers : List NewTable → List ℕ
table_numbers tables = map (λ t. t.number) tables

abbrev pub blob_numbers : List BlobMeta → List ℕ
blob_numbers blobs = map blob_number blobs

abbrev pub addition_numbers : List BlobAddition → List ℕ
addition_numbers added = map (λ a. a.number) added

-- nothing, or this refusal
abbrev pub refuse : (ℕ → BadVersion) → Option ℕ → Result (Unit {0}) BadVersion
refuse why None = Ok tt
refuse why (Some n) = Err (why n)

-- ---- one step

abbrev pub after : Listing → Edit → Listing
after base e =
    let tables = with_tables e.added (without e.deleted base.tables) in
    record { tables = tables; blobs = still_needed (with_links tables (with_garbage e.garbage (with_blobs e.blobs base.blobs))) }

-- The version after an edit, or the first refusal: a rule at a time, and each over the whole edit.
unfoldable pub apply : Listing → Edit → Result Listing BadVersion
apply base e = do
  _ ← refuse UnknownTable (first_unknown base.tables e.deleted)
  _ ← refuse Twice (first_twice (table_numbers (without e.deleted base.tables)) (table_numbers e.added))
  _ ← refuse Twice (first_twice (blob_numbers base.blobs) (addition_numbers e.blobs))
  _ ← refuse Overlap (first_overlap (without e.deleted base.tables) e.added)
  _ ← refuse UnknownBlob (first_unknown_blob (with_blobs e.blobs base.blobs) e.garbage)
  _ ← refuse Overflow (first_over (with_blobs e.blobs base.blobs) e.garbage)
  Ok (after base e)

-- what applying answers is this, unless memory ran out
abbrev pub Applies : Result Listing BadVersion → Result Listing BadVersion → Type 0
Applies (Ok v) step = step ≡ Ok v
Applies (Err OutOfMemory) step = Unit {0}
Applies (Err (UnknownTable n)) step = step ≡ Err (UnknownTable n)
Applies (Err (Twice n)) step = step ≡ Err (Twice n)
Applies (Err (Overlap n)) step = step ≡ Err (Overlap n)
Applies (Err (UnknownBlob n)) step = step ≡ Err (UnknownBlob n)
Applies (Err (Overflow n)) step = step ≡ Err (Overflow n)

abbrev pub has_same_number : NewTable → NewTable → Bool
has_same_number a b = a.number == b.number

-- What every version is: its numbers are in bounds, and tables and blob files stand in their order; no number comes
-- twice, and no tables of a level from 1 on overlap; links and garbage are those of its tables and totals, and each
-- file is still needed.
pub record IsVersion (v : Listing) : Type 0 where
  pub tables_fit : AllByRecursion (λ t. IsTrue (table_fits t)) v.tables
  pub tables_ascend : Ascends table_rank v.tables
  pub tables_once : IsDistinct has_same_number v.tables
  pub tables_apart : IsDistinct clash v.tables
  pub blobs_fit : AllByRecursion (λ b. IsTrue (is_number b.number)) v.blobs
  pub blobs_ascend : Ascends blob_number v.blobs
  pub garbage_fits : AllByRecursion (λ b. is_over b ≡ false) v.blobs
  pub linked : AllByRecursion (λ b. linked_to v.tables b ≡ b) v.blobs
  pub needed : still_needed v.blobs ≡ v.blobs

-- a list of edits, one after another
unfoldable pub applied : Listing → List Edit → Result Listing BadVersion
applied base [] = Ok base
applied base (e ∷ es) = apply base e >>= λ next. applied next es

abbrev pub version : List Edit → Result Listing BadVersion
version edits = applied nothing edits

-- a version: what some edits in bounds lead to from nothing
abbrev pub IsFold : Listing → Type 0
IsFold v = (edits : List Edit) × AllByRecursion IsEdit edits × (version edits ≡ Ok v)
