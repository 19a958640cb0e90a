-- Five lists with equal keys, merged.
use Rattle.std.proofs.Common.{◌≡◌, ℕ, List, [], ◌∷◌, refl, Some, None}
use Rattle.bl_entry.specs.declared.key.Entry.{Entry}
use Rattle.bl_entry.specs.declared.key.Kind.TheVariants.{Deletion, Value}
use Rattle.bl_entry.specs.Latest.{latest}
use Rattle.bl_merge.specs.Lists.{from_on, merged, seen_from}

put : ℕ → ℕ → ℕ → Entry
put user seq value = record { key = record { user = user ∷ []; seq = seq; kind = Value }; value = value ∷ [] }

gone : ℕ → ℕ → Entry
gone user seq = record { key = record { user = user ∷ []; seq = seq; kind = Deletion }; value = [] }

-- Key b at sequence 3 stands in three of them; the second is empty.
five : List (List Entry)
unfolding put gone
five =
    (put 98 3 1 ∷ put 99 9 2 ∷ [])
    ∷ []
    ∷ (put 97 2 3 ∷ put 98 4 4 ∷ put 98 3 5 ∷ [])
    ∷ (gone 98 3 ∷ [])
    ∷ (put 97 7 6 ∷ put 98 3 7 ∷ put 98 1 8 ∷ [])
    ∷ []

in_order_of_runs : merged five ≡ put 97 7 6 ∷ put 97 2 3 ∷ put 98 4 4 ∷ put 98 3 1 ∷ put 98 3 5 ∷ put 98 3 7 ∷ gone 98 3 ∷ put 98 1 8 ∷ put 99 9 2 ∷ []
unfolding put gone five
in_order_of_runs = refl

first_of_three : latest (98 ∷ []) 3 (merged five) ≡ Some (put 98 3 1)
unfolding put gone five
first_of_three = refl

none_so_early : latest (97 ∷ []) 1 (merged five) ≡ None
unfolding put gone five
none_so_early = refl

behind_a_key : from_on (seen_from (98 ∷ []) 2) (merged five) ≡ put 98 1 8 ∷ put 99 9 2 ∷ []
unfolding put gone five
behind_a_key = refl
