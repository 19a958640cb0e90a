-- The first pair of a map from a bound on.
use Rattle.std.proofs.Common.{◌≡◌, ℕ, Bool, true, false, cond, List, [], ◌∷◌, refl, sym, ◌∙◌, ap, Some, None}
use Rattle.std.specs.Prelude.{◌&&◌, find, T}
use Rattle.std.specs.Option.{option_map}
use Rattle.std.specs.Ordering.{is_eq, is_lt}
use Rattle.std.specs.FinMap.{entries, entries_sorted, get-entries, find as lookup, is_sorted}
use Rattle.std.specs.FinMap.Entries.{below_all}
use Rattle.std.specs.declared.cmp.Ordering.TheVariants.{Less}
use Rattle.std.proofs.lemmas.Bool.{false≢true}
use Rattle.bl_code.specs.Order.{bytes_cmp, bytes_lt}
use Rattle.bl_entry.specs.Revisions.{Map}
use Rattle.bl_entry.proofs.ListLemmas.{by_test}
use Rattle.bl_read.specs.declared.bound.Bound.{Bound}
use Rattle.bl_read.specs.declared.bound.Bound.TheVariants.{After}
use Rattle.bl_read.specs.declared.pairs.Pair.{Pair}
use Rattle.bl_read.specs.Scanning.{IsEnd, IsNextKey, is_reached, next_in}
use Rattle.bl_read.proofs.BoundLemmas.{Compared, before, behind, chain, compared, itself, lt_is, reached_behind, same, turned}

abbrev Pairs : Type 0
Pairs = List (List ℕ × List ℕ)

never_some : {A : Type 0} {C : Type 0} (x : A) → Some x ≡ None → C
never_some x e = absurd cc

-- what is found in a longer list
there : (q : List ℕ) (x : List ℕ × List ℕ) (es : Pairs) → lookup bytes_cmp q (x ∷ es) ≡ None → lookup bytes_cmp q es ≡ None
there q x es h =
    by_test (is_eq (bytes_cmp q x.0))
    (λ t. never_some x.1 (sym (ap (λ b. cond b (Some x.1) (lookup bytes_cmp q es)) t) ∙ h))
    (λ f. sym (ap (λ b. cond b (Some x.1) (lookup bytes_cmp q es)) f) ∙ h)

own : (x : List ℕ × List ℕ) (es : Pairs) → lookup bytes_cmp x.0 (x ∷ es) ≡ Some x.1
own x es = ap (λ o. cond (is_eq o) (Some x.1) (lookup bytes_cmp x.0 es)) (itself x.0)

found : (p : List ℕ × List ℕ → Bool) (x : List ℕ × List ℕ) (es : Pairs) → p x ≡ true → find p (x ∷ es) ≡ Some x
found p x es t = ap (λ b. cond b (Some x) (find p es)) t

passed : (p : List ℕ × List ℕ → Bool) (x : List ℕ × List ℕ) (es : Pairs) → p x ≡ false → find p (x ∷ es) ≡ find p es
passed p x es f = ap (λ b. cond b (Some x) (find p es)) f

unlike : (q k : List ℕ) → bytes_cmp q k ≡ Less → is_eq (bytes_cmp q k) ≡ false
unlike q k l = ap is_eq l

unlike_behind : (q k : List ℕ) → bytes_cmp k q ≡ Less → is_eq (bytes_cmp q k) ≡ false
unlike_behind q k l = ap is_eq (turned k q l)

both_true : (a b : Bool) → (a && b) ≡ true → (a ≡ true) × (b ≡ true)
both_true true b h = (refl, h)
both_true false b h = absurd (false≢true h)

is_true : (b : Bool) → T b → b ≡ true
is_true true h = refl
is_true false h = absurd h

-- a key before all keys of a list is not in it
none_below : (k x : List ℕ) (es : Pairs) → bytes_cmp k x ≡ Less → below_all bytes_cmp x es ≡ true → lookup bytes_cmp k es ≡ None
none_below k x [] l h = refl
none_below k x (y ∷ es) l h =
    let p = both_true (is_lt (bytes_cmp x y.0)) (below_all bytes_cmp x es) h in
    let less : bytes_cmp k y.0 ≡ Less = chain k x y.0 l (lt_is x y.0 p.0) in
    ap (λ b. cond b (Some y.1) (lookup bytes_cmp k es)) (unlike k y.0 less) ∙ none_below k x es l p.1

module _ (bound : Bound) where
  abbrev at : List ℕ × List ℕ → Bool
  at p = is_reached bound p.0

  none_at : (es : Pairs) → ((k : List ℕ) → is_reached bound k ≡ true → lookup bytes_cmp k es ≡ None) → find at es ≡ None
  none_at [] h = refl
  none_at (x ∷ es) h =
      by_test (is_reached bound x.0)
      (λ t. never_some x.1 (sym (own x es) ∙ h x.0 t))
      (λ f. passed at x es f ∙ none_at es (λ k r. there k x es (h k r)))

  module _ (key : List ℕ) (reached : is_reached bound key ≡ true) where
    abbrev NoneBefore : Pairs → Type 0
    NoneBefore es = (k : List ℕ) → is_reached bound k ≡ true → bytes_lt k key ≡ true → lookup bytes_cmp k es ≡ None

    less_out : (x : List ℕ × List ℕ) (es : Pairs) → NoneBefore (x ∷ es) → bytes_cmp x.0 key ≡ Less → is_reached bound x.0 ≡ false
    less_out x es none l = by_test (is_reached bound x.0) (λ t. never_some x.1 (sym (own x es) ∙ none x.0 t (ap is_lt l))) (λ f. f)

    some_by : (value : List ℕ) (x : List ℕ × List ℕ) (es : Pairs) → is_sorted bytes_cmp (x ∷ es) ≡ true → lookup bytes_cmp key (x ∷ es) ≡ Some value → NoneBefore (x ∷ es)
        → (lookup bytes_cmp key es ≡ Some value → NoneBefore es → find at es ≡ Some (key, value)) → Compared x.0 key → find at (x ∷ es) ≡ Some (key, value)
    some_by value x es up is none rest (before l) =
        passed at x es (less_out x es none l)
        ∙ rest (sym (ap (λ b. cond b (Some x.1) (lookup bytes_cmp key es)) (unlike_behind key x.0 l)) ∙ is) (λ k r less. there k x es (none k r less))
    some_by value x es up is none rest (same e) =
        let held : Some x.1 ≡ Some value = sym (own x es) ∙ ap (λ q. lookup bytes_cmp q (x ∷ es)) e ∙ is in
        let value_is : x.1 ≡ value = cc in
        found at x es (ap (is_reached bound) e ∙ reached) ∙ (λ i. Some (e i, value_is i))
    some_by value x es up is none rest (behind l) =
        let low = none_below key x.0 es l (both_true (below_all bytes_cmp x.0 es) (is_sorted bytes_cmp es) up).0 in
        never_some value (sym is ∙ ap (λ b. cond b (Some x.1) (lookup bytes_cmp key es)) (unlike key x.0 l) ∙ low)

    some_at : (value : List ℕ) (es : Pairs) → is_sorted bytes_cmp es ≡ true → lookup bytes_cmp key es ≡ Some value → NoneBefore es → find at es ≡ Some (key, value)
    some_at value [] up is none = never_some value (sym is)
    some_at value (x ∷ es) up is none =
        some_by value x es up is none (λ is none. some_at value es (both_true (below_all bytes_cmp x.0 es) (is_sorted bytes_cmp es) up).1 is none) (compared x.0 key)

    after_by : (x : List ℕ × List ℕ) (es : Pairs) → lookup bytes_cmp key (x ∷ es) ≡ None → NoneBefore (x ∷ es)
        → find at es ≡ find (λ p. is_reached (After key) p.0) es → Compared x.0 key → find at (x ∷ es) ≡ find (λ p. is_reached (After key) p.0) (x ∷ es)
    after_by x es is none rest (before l) =
        passed at x es (less_out x es none l) ∙ rest ∙ sym (passed (λ p. is_reached (After key) p.0) x es (ap is_lt (turned x.0 key l)))
    after_by x es is none rest (same e) = never_some x.1 (sym (own x es) ∙ ap (λ q. lookup bytes_cmp q (x ∷ es)) e ∙ is)
    after_by x es is none rest (behind l) =
        found at x es (reached_behind bound key x.0 reached l) ∙ sym (found (λ p. is_reached (After key) p.0) x es (ap is_lt l))

    after_at : (es : Pairs) → lookup bytes_cmp key es ≡ None → NoneBefore es → find at es ≡ find (λ p. is_reached (After key) p.0) es
    after_at [] is none = refl
    after_at (x ∷ es) is none = after_by x es is none (after_at es (there key x es is) (λ k r less. there k x es (none k r less))) (compared x.0 key)

-- ---- of the map

abbrev pair_of : List ℕ × List ℕ → Pair
pair_of p = record { key = p.0; value = p.1 }

pub next_none : (m : Map) (bound : Bound) → IsEnd m bound → next_in bound m ≡ None
next_none m bound end = ap (option_map pair_of) (none_at bound (entries m) (λ k r. sym (get-entries m k) ∙ end k r))

pub next_some : (m : Map) (bound : Bound) (key value : List ℕ) → IsNextKey m bound key (Some value) → next_in bound m ≡ Some (record { key = key; value = value })
next_some m bound key value next =
    ap (option_map pair_of)
    (some_at bound key next.reached value (entries m) (is_true (is_sorted bytes_cmp (entries m)) (entries_sorted m)) (sym (get-entries m key) ∙ next.value) (λ k r l. sym (get-entries m k) ∙ next.none_before k r l))

pub next_after : (m : Map) (bound : Bound) (key : List ℕ) → IsNextKey m bound key None → next_in bound m ≡ next_in (After key) m
next_after m bound key next =
    ap (option_map pair_of)
    (after_at bound key next.reached (entries m) (sym (get-entries m key) ∙ next.value) (λ k r l. sym (get-entries m k) ∙ next.none_before k r l))
