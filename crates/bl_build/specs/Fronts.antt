-- The tables that no other one covers.
use Rattle.std.specs.Prelude.{◌≡◌, ◌==◌, ◌&&◌, ◌||◌, ◌⊎◌, ℕ, ◌<◌, nat_lt, Bool, true, List, length, slice_index_or}
use Rattle.std.specs.Ordering.{nat_cmp, ordering_then}
use Rattle.std.specs.declared.cmp.Ordering.{Ordering}
use Rattle.bl_code.specs.Order.{bytes_cmp, bytes_le}
use Rattle.bl_edit.specs.declared.edit.NewTable.{NewTable}
use Rattle.bl_build.specs.Versions.{first_user, last_user}

-- the order by level and then by the greatest user key
abbrev pub by_end : NewTable → NewTable → Ordering
by_end a b = ordering_then (nat_cmp a.level b.level) (bytes_cmp (last_user a) (last_user b))

-- a is of a greater level, or of the same one and ends no sooner than b begins
abbrev pub reaches : NewTable → NewTable → Bool
reaches a b = nat_lt b.level a.level || ((a.level == b.level) && bytes_le (first_user b) (last_user a))

-- a is of the same level and begins no later
abbrev pub covers : NewTable → NewTable → Bool
covers a b = (a.level == b.level) && bytes_le (first_user a) (first_user b)

-- b is of a lesser level, or of the same one and ends and begins no later than a
abbrev pub Falls : NewTable → NewTable → Type 0
Falls a b = (b.level < a.level) ⊎ ((b.level ≡ a.level) × (bytes_le (last_user b) (last_user a) ≡ true) × (bytes_le (first_user b) (first_user a) ≡ true))

-- each table falls to all those behind it
pub record IsFront (ts : List NewTable) : Type 0 where
  pub falls : (i j : ℕ) (d : NewTable) → i < j → j < length ts → Falls (slice_index_or ts i d) (slice_index_or ts j d)
