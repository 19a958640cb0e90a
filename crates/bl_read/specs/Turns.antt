-- The pairs of a map from a bound on, told one after the other.
use Rattle.std.specs.Prelude.{◌≡◌, List, [], ◌∷◌, filter, map, Option, None, Some, Result, Ok, Err}
use Rattle.std.specs.FinMap.{entries}
use Rattle.bl_entry.specs.Revisions.{Map}
use Rattle.bl_read.specs.declared.bound.Bound.{Bound}
use Rattle.bl_read.specs.declared.bound.Bound.TheVariants.{After}
use Rattle.bl_read.specs.declared.pairs.Pair.{Pair}
use Rattle.bl_read.specs.Scanning.{is_reached, next_in}

-- the pairs of the map at the bound and behind it, in key order
abbrev pub pairs_from : Bound → Map → List Pair
pairs_from bound m = map (λ p. record { key = p.0; value = p.1 }) (filter (λ p. is_reached bound p.0) (entries m))

-- the pair that was told, where one was
abbrev pub told_of : {E : Type 0} → Result (Option Pair) E → List Pair
told_of (Ok None) = []
told_of (Ok (Some pair)) = pair ∷ []
told_of (Err e) = []

-- the first pair, and all behind it; no pair where there is no first one
abbrev pub first_and_behind : Option Pair → Map → List Pair
first_and_behind None m = []
first_and_behind (Some pair) m = pair ∷ pairs_from (After pair.key) m

-- Who asks for the first pair, and then for the first one behind it, and so on, is told exactly the pairs of the map from the bound on, in their order.
abbrev pub PairsAreToldInTurn : Type 0
PairsAreToldInTurn = (m : Map) (bound : Bound) → pairs_from bound m ≡ first_and_behind (next_in bound m) m
