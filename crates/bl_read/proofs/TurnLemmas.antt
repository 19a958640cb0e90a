-- The pairs of a map from a bound on are the first one and those behind it.
use Rattle.std.proofs.Common.{◌≡◌, ℕ, Bool, true, false, cond, List, [], ◌∷◌, refl, sym, ◌∙◌, ap, subst, Option, Some, None}
use Rattle.std.specs.Prelude.{◌&&◌, T, filter, find, map}
use Rattle.std.specs.Option.{option_map}
use Rattle.std.specs.Ordering.{is_lt}
use Rattle.std.specs.FinMap.{entries, entries_sorted, is_sorted}
use Rattle.std.specs.FinMap.Entries.{below_all}
use Rattle.std.specs.declared.cmp.Ordering.TheVariants.{Less}
use Rattle.std.proofs.lemmas.Bool.{false≢true}
use Rattle.bl_code.specs.Order.{bytes_cmp}
use Rattle.bl_entry.specs.Revisions.{Map}
use Rattle.bl_entry.proofs.ItemLemmas.{some_is}
use Rattle.bl_entry.proofs.ListLemmas.{by_test}
use Rattle.bl_read.specs.declared.bound.Bound.{Bound}
use Rattle.bl_read.specs.declared.bound.Bound.TheVariants.{After}
use Rattle.bl_read.specs.declared.pairs.Pair.{Pair}
use Rattle.bl_read.specs.Scanning.{is_reached}
use Rattle.bl_read.specs.Turns.{PairsAreToldInTurn, first_and_behind}
use Rattle.bl_read.proofs.BoundLemmas.{itself, lt_is, reached_behind, turned}

abbrev Pairs : Type 0
Pairs = List (List ℕ × List ℕ)

both_true : (a b : Bool) → (a && b) ≡ true → (a ≡ true) × (b ≡ true)
both_true true b h = (refl, h)
both_true false b h = absurd (false≢true h)

is_true : (b : Bool) → T b → b ≡ true
is_true true h = refl
is_true false h = absurd h

abbrev at : Bound → List ℕ × List ℕ → Bool
at bound p = is_reached bound p.0

-- where all keys behind this one are reached, so are all of a list behind it
all_reached : (bound : Bound) (x : List ℕ) (es : Pairs) → below_all bytes_cmp x es ≡ true → ((k : List ℕ) → bytes_cmp x k ≡ Less → is_reached bound k ≡ true) → filter (at bound) es ≡ es
all_reached bound x [] low reach = refl
all_reached bound x (y ∷ es) low reach =
    let p = both_true (is_lt (bytes_cmp x y.0)) (below_all bytes_cmp x es) low in
    ap (λ b. cond b (y ∷ filter (at bound) es) (filter (at bound) es)) (reach y.0 (lt_is x y.0 p.0)) ∙ ap (λ ys. y ∷ ys) (all_reached bound x es p.1 reach)

-- what is found behind a key stands behind it
found_behind : (bound : Bound) (x : List ℕ) (es : Pairs) (p : List ℕ × List ℕ) → below_all bytes_cmp x es ≡ true → find (at bound) es ≡ Some p → bytes_cmp x p.0 ≡ Less
found_behind bound x [] p low is = absurd (let wrong = is in cc wrong)
found_behind bound x (y ∷ es) p low is =
    let t = both_true (is_lt (bytes_cmp x y.0)) (below_all bytes_cmp x es) low in
    by_test (is_reached bound y.0)
    (λ r.
    let same : y ≡ p = some_is (sym (ap (λ b. cond b (Some y) (find (at bound) es)) r) ∙ is) in
    subst (λ (q : List ℕ × List ℕ). bytes_cmp x q.0 ≡ Less) same (lt_is x y.0 t.0))
    (λ f. found_behind bound x es p t.1 (sym (ap (λ b. cond b (Some y) (find (at bound) es)) f) ∙ is))

abbrev behind : Option (List ℕ × List ℕ) → Pairs → Pairs
behind None es = []
behind (Some p) es = p ∷ filter (at (After p.0)) es

-- a pair before the one that is found does not stand behind it
behind_more : (x : List ℕ × List ℕ) (es : Pairs) (o : Option (List ℕ × List ℕ)) → ((p : List ℕ × List ℕ) → o ≡ Some p → bytes_cmp x.0 p.0 ≡ Less) → behind o es ≡ behind o (x ∷ es)
behind_more x es None less = refl
behind_more x es (Some p) less =
    let out : is_reached (After p.0) x.0 ≡ false = ap is_lt (turned x.0 p.0 (less p refl)) in
    ap (λ qs. p ∷ qs) (sym (ap (λ b. cond b (x ∷ filter (at (After p.0)) es) (filter (at (After p.0)) es)) out))

in_turn : (bound : Bound) (es : Pairs) → is_sorted bytes_cmp es ≡ true → filter (at bound) es ≡ behind (find (at bound) es) es
in_turn bound [] up = refl
in_turn bound (x ∷ es) up =
    let p = both_true (below_all bytes_cmp x.0 es) (is_sorted bytes_cmp es) up in
    by_test (is_reached bound x.0)
    (λ r.
    let out : is_reached (After x.0) x.0 ≡ false = ap is_lt (itself x.0) in
    let own : filter (at (After x.0)) (x ∷ es) ≡ es =
    ap (λ b. cond b (x ∷ filter (at (After x.0)) es) (filter (at (After x.0)) es)) out ∙ all_reached (After x.0) x.0 es p.0 (λ k l. ap is_lt l) in
    ap (λ b. cond b (x ∷ filter (at bound) es) (filter (at bound) es)) r
    ∙ ap (λ ys. x ∷ ys) (all_reached bound x.0 es p.0 (λ k l. reached_behind bound x.0 k r l) ∙ sym own)
    ∙ sym (ap (λ b. behind (cond b (Some x) (find (at bound) es)) (x ∷ es)) r))
    (λ f.
    ap (λ b. cond b (x ∷ filter (at bound) es) (filter (at bound) es)) f
    ∙ in_turn bound es p.1
    ∙ behind_more x es (find (at bound) es) (λ q is. found_behind bound x.0 es q p.0 is)
    ∙ sym (ap (λ b. behind (cond b (Some x) (find (at bound) es)) (x ∷ es)) f))

abbrev pair_of : List ℕ × List ℕ → Pair
pair_of p = record { key = p.0; value = p.1 }

of_map : (m : Map) (o : Option (List ℕ × List ℕ)) → map pair_of (behind o (entries m)) ≡ first_and_behind (option_map pair_of o) m
of_map m None = refl
of_map m (Some p) = refl

pub pairs_in_turn : PairsAreToldInTurn
pairs_in_turn m bound =
    ap (map pair_of) (in_turn bound (entries m) (is_true (is_sorted bytes_cmp (entries m)) (entries_sorted m))) ∙ of_map m (find (at bound) (entries m))
