-- The order of entries does not matter: neither to what occurs once, nor to the map at a sequence where no user key and sequence occur twice.
use Rattle.std.proofs.Common.{◌≡◌, ℕ, zero, suc, ◌≤◌, List, [], ◌∷◌, Bool, true, false, cond, refl, sym, ◌∙◌, ap, subst, arith, Option, Some, None, inl, inr}
use Rattle.std.specs.Prelude.{◌⊎◌, ◌&&◌, ◌==◌, Contains, filter, nat_le, nat_lt, option_and_then}
use Rattle.std.specs.List.{AllByRecursion, IsDistinct}
use Rattle.std.specs.List.Sorted.{IsPermutation}
use Rattle.std.proofs.lemmas.Bool.{eq-eqb, eqb-true}
use Rattle.std.proofs.lemmas.List.Sorted.{Contains-permutation, IsPermutation-sym}
use Rattle.std.proofs.lemmas.Map.Keys.{IsDistinct-IsPermutation}
use Rattle.std.proofs.lemmas.Map.Text.{is_eq-slice_cmp}
use Rattle.std.proofs.lemmas.Slice.Eq.{bytes_eq-Decides}
use Rattle.bl_code.specs.Order.{same_bytes}
use Rattle.bl_entry.specs.Revisions.{Revision, later, newest, value_at}
use Rattle.bl_entry.proofs.ItemLemmas.{some_is}
use Rattle.bl_out.specs.Laws.{ApartInAnyOrder, OnceInAnyOrder, ValuesInAnyOrder}
use Rattle.bl_out.specs.Tables.{same_record}
use Rattle.bl_out.specs.Values.{same_revision}

-- ---- what is asked of two of a list, in any order

-- a test says whether it holds
abbrev Tests : Bool → Type 0 → Type 0
Tests b P = (b ≡ true → P) × (P → b ≡ true)

numbers_test : (m n : ℕ) → Tests (m == n) (m ≡ n)
numbers_test m n = (eqb-true m n, eq-eqb m n)

bytes_test : (a b : List ℕ) → Tests (same_bytes a b) (a ≡ b)
bytes_test a b = let d = bytes_eq-Decides a b in let e = is_eq-slice_cmp a b in (λ t. d.0 (sym e ∙ t), λ is. e ∙ d.1 is)

turn_and : (a b c d : Bool) → a ≡ b → c ≡ d → (a && c) ≡ (b && d)
turn_and a b c d p q = λ i. p i && q i

turned : {P Q : Type 0} (p q : Bool) → Tests p P → Tests q Q → (P → Q) → (Q → P) → p ≡ q
turned true true d e to back = refl
turned false false d e to back = refl
turned true false d e to back = sym (e.1 (to (d.0 refl)))
turned false true d e to back = d.1 (back (e.0 refl))

numbers_turn : (m n : ℕ) → (m == n) ≡ (n == m)
numbers_turn m n = turned (m == n) (n == m) (numbers_test m n) (numbers_test n m) (λ e. sym e) (λ e. sym e)

bytes_turn : (a b : List ℕ) → same_bytes a b ≡ same_bytes b a
bytes_turn a b = turned (same_bytes a b) (same_bytes b a) (bytes_test a b) (bytes_test b a) (λ e. sym e) (λ e. sym e)

pub apart_in_any_order : ApartInAnyOrder
apart_in_any_order = IsDistinct-IsPermutation same_record (λ a b. turn_and _ _ _ _ (numbers_turn a.index.file b.index.file) (numbers_turn a.index.offset b.index.offset))

same_turned : (a b : Revision) → same_revision a b ≡ same_revision b a
same_turned a b = turn_and _ _ _ _ (bytes_turn a.key b.key) (numbers_turn a.seq b.seq)

pub once_in_any_order : OnceInAnyOrder
once_in_any_order = IsDistinct-IsPermutation same_revision (λ a b. turn_and _ _ _ _ (bytes_turn a.key b.key) (numbers_turn a.seq b.seq))

-- ---- one of a list

abbrev Among : Revision → List Revision → Type 0
Among e [] = ⊥
Among e (x ∷ xs) = (x ≡ e) ⊎ Among e xs

behind_first : (x y : Revision) (xs : List Revision) → Contains xs y → Contains (x ∷ xs) y
behind_first x y xs (k, less, is) = (suc k, omega arith, is)

to_contains : (e : Revision) (xs : List Revision) → Among e xs → Contains xs e
to_contains e [] h = absurd h
to_contains e (x ∷ xs) (inl is) = (zero, omega arith, is)
to_contains e (x ∷ xs) (inr h) = behind_first x e xs (to_contains e xs h)

from_contains : (e : Revision) (xs : List Revision) → Contains xs e → Among e xs
from_contains e [] (k, less, is) = absurd (omega arith)
from_contains e (x ∷ xs) (zero, less, is) = inl is
from_contains e (x ∷ xs) (suc k, less, is) = inr (from_contains e xs (k, omega arith, is))

moved : (e : Revision) (es fs : List Revision) → IsPermutation es fs → Among e es → Among e fs
moved e es fs p h = from_contains e fs (Contains-permutation es fs e p (to_contains e es h))

-- the one of greatest sequence
pub record IsMost (e : Revision) (es : List Revision) : Type 0 where
  pub there : Among e es
  pub most : (f : Revision) → Among f es → f.seq ≤ e.seq

none_there : (xs : List Revision) → newest xs ≡ None → (f : Revision) → Among f xs → ⊥
none_there [] e f h = h
none_there (x ∷ xs) e f h = absurd cc

most_of_both : (x y : Revision) (xs : List Revision) → IsMost y xs → IsMost (later x (Some y)) (x ∷ xs)
most_of_both x y xs m = by (nat_lt x.seq y.seq) refl
  where
    by : (b : Bool) → nat_lt x.seq y.seq ≡ b → IsMost (cond b y x) (x ∷ xs)
    by true less = record {
      there = inr m.there;
      most = λ f h. elim h [
        | inl is ↦ let s : x.seq ≡ f.seq = ap (λ (r : Revision). r.seq) is in grind (arith, less, s)
        | inr more ↦ m.most f more
      ];
    }
    by false less = record {
      there = inl refl;
      most = λ f h. elim h [
        | inl is ↦ let s : x.seq ≡ f.seq = ap (λ (r : Revision). r.seq) is in omega (arith, s)
        | inr more ↦ let le = m.most f more in grind (arith, less, le)
      ];
    }

newest_is : (es : List Revision) (e : Revision) → newest es ≡ Some e → IsMost e es
newest_is [] e p = absurd cc
newest_is (x ∷ xs) e p = subst (λ (r : Revision). IsMost r (x ∷ xs)) (some_is p) (by (newest xs) refl (newest_is xs))
  where
    by : (o : Option Revision) → newest xs ≡ o → ((y : Revision) → newest xs ≡ Some y → IsMost y xs) → IsMost (later x o) (x ∷ xs)
    by None is rec = record {
      there = inl refl;
      most = λ f h. elim h [
        | inl same ↦ let s : x.seq ≡ f.seq = ap (λ (r : Revision). r.seq) same in omega (arith, s)
        | inr more ↦ absurd (none_there xs is f more)
      ];
    }
    by (Some y) is rec = most_of_both x y xs (rec y is)

-- ---- what passes a test

module _ (p : Revision → Bool) where
  kept_to : (f : Revision) (es : List Revision) → Among f (filter p es) → Among f es × (p f ≡ true)
  kept_to f [] h = absurd h
  kept_to f (x ∷ xs) h = by (p x) refl (kept_to f xs) h
    where
      by : (b : Bool) → p x ≡ b → (Among f (filter p xs) → Among f xs × (p f ≡ true)) → Among f (cond b (x ∷ filter p xs) (filter p xs)) → Among f (x ∷ xs) × (p f ≡ true)
      by true is rec (inl same) = (inl same, ap p (sym same) ∙ is)
      by true is rec (inr more) = let r = rec more in (inr r.0, r.1)
      by false is rec more = let r = rec more in (inr r.0, r.1)

  kept_from : (f : Revision) (es : List Revision) → Among f es → p f ≡ true → Among f (filter p es)
  kept_from f [] h is = h
  kept_from f (x ∷ xs) h is = by (p x) refl (λ more. kept_from f xs more is) h
    where
      by : (b : Bool) → p x ≡ b → (Among f xs → Among f (filter p xs)) → Among f (x ∷ xs) → Among f (cond b (x ∷ filter p xs) (filter p xs))
      by true t rec (inl same) = inl same
      by true t rec (inr more) = inr (rec more)
      by false t rec (inl same) = let e : false ≡ true = sym t ∙ ap p same ∙ is in absurd cc
      by false t rec (inr more) = rec more

-- ---- two of one user key and sequence are one

not_first : (x f : Revision) (xs : List Revision) → AllByRecursion (λ y. same_revision x y ≡ false) xs → Among f xs → same_revision x f ≡ false
not_first x f [] h there = absurd there
not_first x f (y ∷ ys) h (inl is) = ap (same_revision x) (sym is) ∙ h.0
not_first x f (y ∷ ys) h (inr more) = not_first x f ys h.1 more

clash : (b : Bool) → b ≡ true → b ≡ false → ⊥
clash true t f = let e : true ≡ false = f in absurd cc
clash false t f = let e : false ≡ true = t in absurd cc

one_of : (es : List Revision) → IsDistinct same_revision es → (e f : Revision) → Among e es → Among f es → same_revision e f ≡ true → e ≡ f
unfolding IsDistinct
one_of [] h e f a b same = absurd a
one_of (x ∷ xs) h e f (inl p) (inl q) same = sym p ∙ q
one_of (x ∷ xs) h e f (inl p) (inr q) same = absurd (clash (same_revision e f) same (ap (λ r. same_revision r f) (sym p) ∙ not_first x f xs h.0 q))
one_of (x ∷ xs) h e f (inr p) (inl q) same =
    absurd (clash (same_revision f e) (same_turned f e ∙ same) (ap (λ r. same_revision r e) (sym q) ∙ not_first x e xs h.0 p))
one_of (x ∷ xs) h e f (inr p) (inr q) same = one_of xs h.1 e f p q same

-- ---- the value at a sequence

split : (a b : Bool) → (a && b) ≡ true → (a ≡ true) × (b ≡ true)
split true b e = (refl, e)
split false b e = absurd cc

joined : (a b : Bool) → a ≡ true → b ≡ true → (a && b) ≡ true
joined true b p q = q
joined false b p q = absurd cc

module _ (es fs : List Revision) (p : IsPermutation es fs) (once : IsDistinct same_revision es) (seq : ℕ) (key : List ℕ) where
  test : Revision → Bool
  test e = same_bytes e.key key && nat_le e.seq seq

  newest_same : (a b : Option Revision) → newest (filter test es) ≡ a → newest (filter test fs) ≡ b → a ≡ b
  unfolding test
  newest_same None None x y = refl
  newest_same None (Some f) x y =
      let m = newest_is (filter test fs) f y in
      let k = kept_to test f fs m.there in
      absurd (none_there (filter test es) x f (kept_from test f es (moved f fs es (IsPermutation-sym es fs p) k.0) k.1))
  newest_same (Some e) None x y =
      let m = newest_is (filter test es) e x in
      let k = kept_to test e es m.there in
      absurd (none_there (filter test fs) y e (kept_from test e fs (moved e es fs p k.0) k.1))
  newest_same (Some e) (Some f) x y =
      let m = newest_is (filter test es) e x in
      let n = newest_is (filter test fs) f y in
      let k = kept_to test e es m.there in
      let l = kept_to test f fs n.there in
      let here : Among f es = moved f fs es (IsPermutation-sym es fs p) l.0 in
      let up = m.most f (kept_from test f es here l.1) in
      let down = n.most e (kept_from test e fs (moved e es fs p k.0) k.1) in
      let seqs : e.seq ≡ f.seq = omega (arith, up, down) in
      let keys : e.key ≡ f.key = (bytes_test e.key key).0 (split (same_bytes e.key key) (nat_le e.seq seq) k.1).0 ∙ sym ((bytes_test f.key key).0 (split (same_bytes f.key key) (nat_le f.seq seq) l.1).0) in
      ap Some (one_of es once e f k.0 here (joined (same_bytes e.key f.key) (e.seq == f.seq) ((bytes_test e.key f.key).1 keys) (eq-eqb e.seq f.seq seqs)))

  pub value_same : value_at es seq key ≡ value_at fs seq key
  unfolding test
  value_same = ap (option_and_then (λ (e : Revision). e.put)) (newest_same (newest (filter test es)) (newest (filter test fs)) refl refl)

pub values_in_any_order : ValuesInAnyOrder
values_in_any_order es fs seq key p once = value_same es fs p once seq key
