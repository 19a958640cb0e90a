-- Worked rows of versions.
use Rattle.std.proofs.Common.{◌≡◌, ℕ, [], ◌∷◌, refl}
use Rattle.std.specs.Prelude.{Ok, Err}
use Rattle.bl_edit.specs.declared.edit.NewTable.{NewTable}
use Rattle.bl_edit.specs.declared.edit.Edit.{Edit}
use Rattle.bl_edit.specs.Reading.{no_field}
use Rattle.bl_build.specs.declared.error.BadVersion.TheVariants.{UnknownTable, Twice, Overlap, UnknownBlob, Overflow}
use Rattle.bl_build.specs.Listing.{Listing, nothing}
use Rattle.bl_build.specs.Versions.{apply, applied, version}

-- a table over the user keys from first to last, both of one byte
table : ℕ → ℕ → ℕ → ℕ → ℕ → NewTable
table level number first last oldest = record {
  level = level;
  number = number;
  size = 118;
  smallest = first ∷ 0x11 ∷ 1 ∷ 0 ∷ 0 ∷ 0 ∷ 0 ∷ 0 ∷ 0 ∷ [];
  largest = last ∷ 0x11 ∷ 1 ∷ 0 ∷ 0 ∷ 0 ∷ 0 ∷ 0 ∷ 0 ∷ [];
  least_seq = 1;
  most_seq = 1;
  oldest_blob = oldest;
}

flushed : Edit
unfolding table
flushed = record no_field { added = table 0 4 97 97 5 ∷ []; blobs = record { number = 5; count = 1; bytes = 34 } ∷ [] }

base : Listing
unfolding table
base = record {
  tables = table 0 4 97 97 5 ∷ [];
  blobs = record { number = 5; total = record { count = 1; bytes = 34 }; garbage = record { count = 0; bytes = 0 }; linked = 1 } ∷ [];
}

after_flush : version (flushed ∷ []) ≡ Ok base
unfolding table flushed base apply applied
after_flush = refl

all_gone : apply base (record no_field { deleted = record { level = 0; number = 4 } ∷ []; garbage = record { number = 5; count = 1; bytes = 34 } ∷ [] }) ≡ Ok nothing
unfolding table base apply
all_gone = refl

too_much : apply base (record no_field { garbage = record { number = 5; count = 2; bytes = 68 } ∷ [] }) ≡ Err (Overflow 5)
unfolding table base apply
too_much = refl

not_there : apply base (record no_field { deleted = record { level = 1; number = 4 } ∷ [] }) ≡ Err (UnknownTable 4)
unfolding table base apply
not_there = refl

twice : apply base (record no_field { added = table 0 4 97 97 5 ∷ [] }) ≡ Err (Twice 4)
unfolding table base apply
twice = refl

no_blob : apply base (record no_field { garbage = record { number = 6; count = 1; bytes = 34 } ∷ [] }) ≡ Err (UnknownBlob 6)
unfolding table base apply
no_blob = refl

overlapping : apply (record { tables = table 1 1 97 99 0 ∷ []; blobs = [] }) (record no_field { added = table 1 2 99 100 0 ∷ [] }) ≡ Err (Overlap 2)
unfolding table apply
overlapping = refl
