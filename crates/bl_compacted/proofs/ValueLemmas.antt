-- Which revisions may go without a key's value changing.
use Rattle.std.proofs.Common.{◌≡◌, ℕ, ◌<◌, ◌≤◌, Bool, true, false, cond, List, [], ◌∷◌, refl, sym, ◌∙◌, ap, subst, arith, Option, Some, None, inl, inr}
use Rattle.std.specs.Prelude.{◌⊎◌, ◌&&◌, nat_le, nat_lt, MatchOption, option_and_then}
use Rattle.std.specs.List.{AllByRecursion}
use Rattle.std.proofs.lemmas.Bool.{leb-true, le-leb, ltb-true, ltb-false}
use Rattle.std.proofs.lemmas.Map.Text.{is_eq-slice_cmp}
use Rattle.std.proofs.lemmas.Slice.Eq.{bytes_eq-Decides}
use Rattle.bl_code.specs.Order.{same_bytes}
use Rattle.bl_entry.specs.Revisions.{Revision, later, newest, seen, value_at}
use Rattle.bl_compacted.specs.Pairs.{AreDistinct, Pairwise}
use Rattle.bl_compacted.proofs.Lists.{In, by_test, in_all, in_filter, in_filtered, in_pairs}

pub same_key : (k q : List ℕ) → same_bytes k q ≡ true → k ≡ q
same_key k q e = (bytes_eq-Decides k q).0 (sym (is_eq-slice_cmp k q) ∙ e)

pub key_same : (k q : List ℕ) → k ≡ q → same_bytes k q ≡ true
key_same k q e = is_eq-slice_cmp k q ∙ (bytes_eq-Decides k q).1 e

pub and_parts : (a b : Bool) → (a && b) ≡ true → (a ≡ true) × (b ≡ true)
and_parts true b e = (refl, e)
and_parts false b e = absurd cc

pub and_both : (a b : Bool) → a ≡ true → b ≡ true → (a && b) ≡ true
and_both true b p q = q
and_both false b p q = absurd cc

pub in_seen : (s : ℕ) (key : List ℕ) (es : List Revision) (r : Revision) → In r es → r.key ≡ key → r.seq ≤ s → In r (seen s key es)
in_seen s key es r i k le =
    in_filter (λ e. same_bytes e.key key && nat_le e.seq s) r es i (and_both (same_bytes r.key key) (nat_le r.seq s) (key_same r.key key k) (le-leb r.seq s le))

pub of_seen : (s : ℕ) (key : List ℕ) (es : List Revision) (r : Revision) → In r (seen s key es) → In r es × (r.key ≡ key) × (r.seq ≤ s)
of_seen s key es r i =
    let f = in_filtered (λ (e : Revision). same_bytes e.key key && nat_le e.seq s) r es i in
    let t = and_parts (same_bytes r.key key) (nat_le r.seq s) f.1 in
    (f.0, same_key r.key key t.0, leb-true r.seq s t.1)

newest_none : (xs : List Revision) → newest xs ≡ None → xs ≡ []
newest_none [] e = refl
newest_none (x ∷ xs) e = absurd cc

-- one of them, of the greatest sequence
abbrev pub Greatest : Revision → List Revision → Type 0
Greatest r xs = In r xs × AllByRecursion (λ x. x.seq ≤ r.seq) xs

all_le : (a b : ℕ) (xs : List Revision) → a ≤ b → AllByRecursion (λ x. x.seq ≤ a) xs → AllByRecursion (λ x. x.seq ≤ b) xs
all_le a b [] le h = tt
all_le a b (x ∷ xs) le h = (omega (arith, h.0), all_le a b xs le h.1)

abbrev Found : Option Revision → List Revision → Type 0
Found o xs = MatchOption o (xs ≡ []) (λ r. Greatest r xs)

greatest_with : (x : Revision) (xs : List Revision) (o : Option Revision) → Found o xs → Greatest (later x o) (x ∷ xs)
greatest_with x xs None is = (inl refl, (omega arith, subst (AllByRecursion (λ y. y.seq ≤ x.seq)) (sym is) tt))
greatest_with x xs (Some o) g =
    by_test (nat_lt x.seq o.seq)
    (λ t.
    let less : x.seq < o.seq = ltb-true x.seq o.seq t in
    subst (λ (z : Revision). Greatest z (x ∷ xs)) (sym (ap (λ b. cond b o x) t)) (inr g.0, (omega arith, g.1)))
    (λ t.
    let less : o.seq ≤ x.seq = ltb-false x.seq o.seq t in
    subst (λ (z : Revision). Greatest z (x ∷ xs)) (sym (ap (λ b. cond b o x) t)) (inl refl, (omega arith, all_le o.seq x.seq xs less g.1)))

found_in : (xs : List Revision) → Found (newest xs) xs
found_in [] = refl
found_in (x ∷ xs) = greatest_with x xs (newest xs) (found_in xs)

found_as : (xs : List Revision) (o : Option Revision) → newest xs ≡ o → Found o xs
found_as xs o e = subst (λ p. Found p xs) e (found_in xs)

nothing_in : (xs : List Revision) → ((r : Revision) → In r xs → ⊥) → xs ≡ []
nothing_in [] f = refl
nothing_in (x ∷ xs) f = absurd (f x (inl refl))

-- one of the same key is later, and seen too
abbrev pub Superseded : List Revision → ℕ → Revision → Type 0
Superseded old s r = (q : Revision) × In q old × (q.key ≡ r.key) × (r.seq < q.seq) × (q.seq ≤ s)

-- a deletion behind which nothing of its key is left
abbrev pub Dead : List Revision → ℕ → Revision → Type 0
Dead new s r = (r.put ≡ None) × ((q : Revision) → In q new → q.key ≡ r.key → q.seq ≤ s → r.seq < q.seq)

-- it stays, or it may go
abbrev pub Fate : List Revision → List Revision → ℕ → Revision → Type 0
Fate old new s r = In r new ⊎ (Superseded old s r ⊎ Dead new s r)

not_distinct : (a b : Revision) → a.key ≡ b.key → a.seq ≡ b.seq → AreDistinct a b → ⊥
not_distinct a b k s (inl n) = n k
not_distinct a b k s (inr n) = n s

abbrev value_of : Option Revision → Option (List ℕ)
value_of o = option_and_then (λ e. e.put) o

pub value_same : (old new : List Revision) (s : ℕ) (key : List ℕ) → Pairwise AreDistinct old → ((r : Revision) → In r new → In r old)
    → ((r : Revision) → In r old → r.key ≡ key → r.seq ≤ s → Fate old new s r) → value_at new s key ≡ value_at old s key
value_same old new s key apart sub stays = by_old (newest (seen s key old)) refl
  where
    -- what is seen of the new ones is seen of the old ones
    seen_old : (q : Revision) → In q (seen s key new) → In q (seen s key old)
    seen_old q i = let k = of_seen s key new q i in in_seen s key old q (sub q k.0) k.1 k.2

    -- all are up to the greatest
    below : (r q : Revision) → Greatest r (seen s key old) → In q (seen s key old) → q.seq ≤ r.seq
    below r q g i = in_all (λ x. x.seq ≤ r.seq) q (seen s key old) g.1 i

    one : (r q : Revision) → In r old → In q old → r.key ≡ q.key → r.seq ≡ q.seq → r ≡ q
    one r q i j k e = pick (in_pairs AreDistinct r q old apart i j)
      where
        pick : (r ≡ q) ⊎ (AreDistinct r q ⊎ AreDistinct q r) → r ≡ q
        pick (inl is) = is
        pick (inr (inl d)) = absurd (not_distinct r q k e d)
        pick (inr (inr d)) = absurd (not_distinct q r (sym k) (sym e) d)

    kept_is : (r : Revision) → Greatest r (seen s key old) → In r new → (o : Option Revision) → newest (seen s key new) ≡ o → o ≡ Some r
    kept_is r g i None e =
        let k = of_seen s key old r g.0 in
        absurd (subst (In r) (newest_none (seen s key new) e) (in_seen s key new r i k.1 k.2))
    kept_is r g i (Some q) e =
        let k = of_seen s key old r g.0 in
        let h : Greatest q (seen s key new) = found_as (seen s key new) (Some q) e in
        let l = of_seen s key new q h.0 in
        let up : q.seq ≤ r.seq = below r q g (seen_old q h.0) in
        let down : r.seq ≤ q.seq = in_all (λ x. x.seq ≤ q.seq) r (seen s key new) h.1 (in_seen s key new r i k.1 k.2) in
        ap Some (one q r (sub q l.0) k.0 (l.1 ∙ sym k.1) (omega arith))

    by_fate : (r : Revision) → newest (seen s key old) ≡ Some r → Greatest r (seen s key old) → Fate old new s r → value_at new s key ≡ value_at old s key
    by_fate r e g (inl i) = ap value_of (kept_is r g i (newest (seen s key new)) refl ∙ sym e)
    by_fate r e g (inr (inl q)) =
        let k = of_seen s key old r g.0 in
        let up : q.0.seq ≤ r.seq = below r q.0 g (in_seen s key old q.0 q.1 (q.2 ∙ k.1) q.4) in
        let later_ : r.seq < q.0.seq = q.3 in
        absurd (omega arith)
    by_fate r e g (inr (inr dead)) =
        let k = of_seen s key old r g.0 in
        let none : seen s key new ≡ [] =
        nothing_in (seen s key new) (λ q i.
        let l = of_seen s key new q i in
        let up : q.seq ≤ r.seq = below r q g (seen_old q i) in
        let after : r.seq < q.seq = dead.1 q l.0 (l.1 ∙ sym k.1) l.2 in
        absurd (omega arith)) in
        ap (λ xs. value_of (newest xs)) none ∙ sym (ap value_of e ∙ dead.0)

    by_old : (o : Option Revision) → newest (seen s key old) ≡ o → value_at new s key ≡ value_at old s key
    by_old None e =
        let none : seen s key new ≡ [] =
        nothing_in (seen s key new) (λ q i. subst (In q) (newest_none (seen s key old) e) (seen_old q i)) in
        ap (λ xs. value_of (newest xs)) none ∙ sym (ap value_of e)
    by_old (Some r) e =
        let g : Greatest r (seen s key old) = found_as (seen s key old) (Some r) e in
        let k = of_seen s key old r g.0 in
        by_fate r e g (stays r k.0 k.1 k.2)
