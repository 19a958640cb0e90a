-- The pairs of a map within bounds.
use Rattle.std.specs.Prelude.{ℕ, ◌&&◌, Bool, true, List, filter, Option, None, Some}
use Rattle.std.specs.FinMap.{entries}
use Rattle.bl_code.specs.Order.{bytes_lt, bytes_le}
use Rattle.bl_entry.specs.Revisions.{Map}

-- at `from` or behind it
abbrev pub is_from : Option (List ℕ) → List ℕ → Bool
is_from None key = true
is_from (Some from) key = bytes_le from key

-- before `to`
abbrev pub is_before : Option (List ℕ) → List ℕ → Bool
is_before None key = true
is_before (Some to) key = bytes_lt key to

-- the pairs whose keys are at `from` or behind it and before `to`, ascending
abbrev pub pairs_between : Option (List ℕ) → Option (List ℕ) → Map → List (List ℕ × List ℕ)
pairs_between from to m = filter (λ p. is_from from p.0 && is_before to p.0) (entries m)
