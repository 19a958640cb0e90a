-- The first item at fault.
use Rattle.std.proofs.Common.{◌≡◌, ◌≢◌, ℕ, zero, suc, ◌+◌, ◌^◌, ◌<◌, ◌≤◌, nat_lt, Bool, true, false, cond, List, [], ◌∷◌, length, take, drop, drop-cons, get_or, refl, sym, ◌∙◌, ap, arith, inl, inr, add-one}
use Rattle.std.specs.Prelude.{◌==◌, ◌&&◌, ◌||◌, not, find, map, IsTrue, Option, Some, None}
use Rattle.std.specs.List.{AllByRecursion, list_any}
use Rattle.std.specs.List.Sorted.{IsPartitionPoint}
use Rattle.std.proofs.lemmas.Bool.{eq-eqb, eqb-true, cases_eq, cases_lt, false≢true, ltb-true, ltb-false}
use Rattle.std.proofs.lemmas.List.Folds.{list_any_at}
use Rattle.bl_edit.specs.declared.edit.DeletedTable.{DeletedTable}
use Rattle.bl_edit.specs.declared.edit.NewTable.{NewTable}
use Rattle.bl_edit.specs.Bounds.{deletion_fits, table_fits, is_level, is_number}
use Rattle.bl_build.specs.Listing.{Ascends, rank, table_rank}
use Rattle.bl_build.specs.Versions.{first_twice, is_deleted}
use Rattle.bl_build.proofs.Levels.{both_true, fits_number, not_eqb, number_fits}
use Rattle.bl_build.proofs.Placing.{all_from}

-- ---- a search that goes on

goes_on : {A : Type 0} (t : Bool) (y : A) (few all found : Option A) → cond t (Some y) few ≡ None → (few ≡ None → all ≡ found) → cond t (Some y) all ≡ found
goes_on true y few all found e k = absurd cc
goes_on false y few all found e k = k e

pub find_here : {A : Type 0} (p : A → Bool) (xs : List A) (i : ℕ) (x d : A) → find p (take i xs) ≡ None → i < length xs → x ≡ get_or xs i d → p x ≡ true → find p xs ≡ Some x
find_here p [] i x d none lt is h = absurd (omega arith)
find_here {A = A} p (y ∷ ys) zero x d none lt is h = ap (λ t. cond t (Some y) (find p ys)) (ap p (sym is) ∙ h) ∙ ap Some (sym is)
find_here p (y ∷ ys) (suc i) x d none lt is h = goes_on (p y) y (find p (take i ys)) (find p ys) (Some x) none (λ k. find_here p ys i x d k (omega arith) is h)

pub find_more : {A : Type 0} (p : A → Bool) (xs : List A) (i : ℕ) (x d : A) → find p (take i xs) ≡ None → i < length xs → x ≡ get_or xs i d → p x ≡ false → find p (take (i + 1) xs) ≡ None
find_more p [] i x d none lt is h = absurd (omega arith)
find_more p (y ∷ ys) zero x d none lt is h = ap (λ t. cond t (Some y) None) (ap p (sym is) ∙ h)
find_more p (y ∷ ys) (suc i) x d none lt is h =
    let place : suc i + 1 ≡ suc (i + 1) = omega arith in
    ap (λ k. find p (take k (y ∷ ys))) place ∙ goes_on (p y) y (find p (take i ys)) (find p (take (i + 1) ys)) None none (λ k. find_more p ys i x d k (omega arith) is h)

pub find_end : {A : Type 0} (p : A → Bool) (xs : List A) (i : ℕ) → length xs ≤ i → find p (take i xs) ≡ None → find p xs ≡ None
find_end p [] i le h = refl
find_end p (y ∷ ys) zero le h = absurd (omega arith)
find_end p (y ∷ ys) (suc i) le h = goes_on (p y) y (find p (take i ys)) (find p ys) None h (find_end p ys i (omega arith))

-- ---- tables by their ranks

same_test : (a b : ℕ) (t : Bool) → (a ≡ b → t ≡ true) → (t ≡ true → a ≡ b) → (a == b) ≡ t
same_test a b true h k = eq-eqb a b (k refl)
same_test a b false h k = not_eqb a b (λ e. false≢true (h e))

level_and_number : (d : DeletedTable) (t : NewTable) → d.number < 2 ^ 64 → t.number < 2 ^ 64 → (table_rank t == rank d.level d.number) ≡ is_deleted d t
level_and_number d t h k =
    same_test (table_rank t) (rank d.level d.number) (is_deleted d t)
    (λ e.
    let number : t.number ≡ d.number = omega arith in
    let level : t.level ≡ d.level = omega arith in
    λ i. eq-eqb t.level d.level level i && eq-eqb t.number d.number number i)
    (λ e.
    let both = both_true (t.level == d.level) (t.number == d.number) e in
    let level : t.level ≡ d.level = eqb-true t.level d.level both.0 in
    let number : t.number ≡ d.number = eqb-true t.number d.number both.1 in
    omega arith)

pub deletion_number : (d : DeletedTable) → deletion_fits d ≡ true → d.number < 2 ^ 64
deletion_number d h = number_fits d.number (both_true (is_level d.level) (is_number d.number) h).1

pub any_rank : (d : DeletedTable) (ts : List NewTable) → d.number < 2 ^ 64 → AllByRecursion (λ t. IsTrue (table_fits t)) ts → list_any (λ t. table_rank t == rank d.level d.number) ts ≡ list_any (is_deleted d) ts
any_rank d [] h k = refl
any_rank d (t ∷ ts) h k = λ i. level_and_number d t h (fits_number t k.0) i || any_rank d ts h k.1 i

-- the same the other way: one table among deleted ones
pub any_deleted : (t : NewTable) (ds : List DeletedTable) → t.number < 2 ^ 64 → AllByRecursion (λ d. IsTrue (deletion_fits d)) ds
    → list_any (λ d. rank d.level d.number == table_rank t) ds ≡ list_any (λ d. is_deleted d t) ds
any_deleted t [] h k = refl
any_deleted t (d ∷ ds) h k = λ i. (flip (rank d.level d.number) (table_rank t) ∙ level_and_number d t (deletion_number d k.0) h) i || any_deleted t ds h k.1 i
  where
    flip : (a b : ℕ) → (a == b) ≡ (b == a)
    flip a b = elim (cases_eq a b) [ inl e ↦ eq-eqb a b e ∙ sym (eq-eqb b a (sym e)) | inr n ↦ not_eqb a b n ∙ sym (not_eqb b a (λ e. n (sym e))) ]

-- ---- an item by its key, where the keys ascend

absent_all : {A : Type 0} (key : A → ℕ) (r : ℕ) (xs : List A) → AllByRecursion (λ x. key x ≢ r) xs → list_any (λ x. key x == r) xs ≡ false
absent_all key r [] h = refl
absent_all key r (x ∷ xs) h = λ i. not_eqb (key x) r h.0 i || absent_all key r xs h.1 i

absent : {A : Type 0} (key : A → ℕ) (r at : ℕ) (xs : List A) (d : A) → Ascends key xs → ((k : ℕ) (e : A) → k < at → k < length xs → key (get_or xs k e) < r)
    → (at < length xs → r < key (get_or xs at d)) → list_any (λ x. key x == r) xs ≡ false
absent key r at [] d h below above = refl
absent key r zero (x ∷ xs) d h below above =
    let less : r < key x = above (omega arith) in
    absent_all key r (x ∷ xs) ((λ e. omega (arith, e)), all_from (λ y. key x < key y) (λ y. key y ≢ r) xs (λ y lt e. omega (arith, e)) h.0)
absent key r (suc at) (x ∷ xs) d h below above =
    let less : key x < r = below 0 x (omega arith) (omega arith) in
    λ i. not_eqb (key x) r (λ e. omega (arith, e)) i || absent key r at xs d h.1 (λ k e lt lt2. below (suc k) e (omega arith) (omega arith)) (λ lt. above (omega arith)) i

-- none, where that at the place that a search finds is another
pub none_at : {A : Type 0} (key : A → ℕ) (r at : ℕ) (xs : List A) (d : A) → Ascends key xs → IsPartitionPoint (λ x. nat_lt (key x) r ≡ true) (λ x. nat_lt (key x) r ≡ false) xs at
    → (at < length xs → key (get_or xs at d) ≢ r) → list_any (λ x. key x == r) xs ≡ false
none_at key r at xs d h point other =
    absent key r at xs d h (λ k e lt lt2. ltb-true (key (get_or xs k e)) r (point.0 k e (omega arith) lt))
    (λ lt.
    let low : r ≤ key (get_or xs at d) = ltb-false (key (get_or xs at d)) r (point.1 at d (omega arith) lt) in
    elim (cases_lt r (key (get_or xs at d))) [ inl less ↦ less | inr more ↦ absurd (other lt (omega arith)) ])

pub present : {A : Type 0} (key : A → ℕ) (r i : ℕ) (xs : List A) (d : A) → i < length xs → key (get_or xs i d) ≡ r → list_any (λ x. key x == r) xs ≡ true
present key r i xs d lt e = list_any_at (λ x. key x == r) xs i d lt (eq-eqb (key (get_or xs i d)) r e)

-- so the test of the item at that place is that of all
pub test_at : {A : Type 0} (key : A → ℕ) (r at : ℕ) (xs : List A) (x : A) → Ascends key xs → IsPartitionPoint (λ y. nat_lt (key y) r ≡ true) (λ y. nat_lt (key y) r ≡ false) xs at → at < length xs
    → x ≡ get_or xs at x → (key x == r) ≡ list_any (λ y. key y == r) xs
test_at key r at xs x h point lt is =
    elim (cases_eq (key x) r) [
      | inl e ↦ eq-eqb (key x) r e ∙ sym (present key r at xs x lt (ap key (sym is) ∙ e))
      | inr n ↦ not_eqb (key x) r n ∙ sym (none_at key r at xs x h point (λ lt2 e. n (ap key is ∙ e)))
    ]

-- ---- numbers that come twice

pub drop_all : {A : Type 0} (i : ℕ) (xs : List A) → length xs ≤ i → drop i xs ≡ []
drop_all zero [] le = refl
drop_all zero (x ∷ xs) le = absurd (omega arith)
drop_all (suc i) [] le = refl
drop_all (suc i) (x ∷ xs) le = drop_all i xs (omega arith)

pub drop_step : {A : Type 0} (xs : List A) (i : ℕ) (x d : A) → i < length xs → x ≡ get_or xs i d → drop i xs ≡ x ∷ drop (i + 1) xs
drop_step xs i x d lt is = drop-cons xs i d lt ∙ (λ j. sym is j ∷ drop (sym (add-one i) j) xs)

-- What is there or came before makes up `done`, and `seen` says of each number that is added whether it is in it.
pub record Seeks {A : Type 0} (number : A → ℕ) (there : List ℕ) (added : List A) (i : ℕ) (seen : ℕ → Bool) : Type 0 where
  pub done : List ℕ
  pub reads : first_twice there (map number added) ≡ first_twice done (map number (drop i added))
  pub sees : (q : ℕ) → list_any (λ x. number x == q) added ≡ true → seen q ≡ list_any (λ m. m == q) done

module _ {A : Type 0} (number : A → ℕ) (there : List ℕ) (added : List A) where
  pub seeks_start : (seen : ℕ → Bool) → ((q : ℕ) → list_any (λ x. number x == q) added ≡ true → seen q ≡ list_any (λ m. m == q) there) → Seeks number there added 0 seen
  seeks_start seen h = record { done = there; reads = refl; sees = h }

  seek_step : (i : ℕ) (seen : ℕ → Bool) (x d : A) (t : Bool) → (s : Seeks number there added i seen) → i < length added → x ≡ get_or added i d → seen (number x) ≡ t
      → first_twice there (map number added) ≡ cond t (Some (number x)) (first_twice (number x ∷ s.done) (map number (drop (i + 1) added)))
  seek_step i seen x d t s lt is h =
      let member : list_any (λ y. number y == number x) added ≡ true = present number (number x) i added d lt (ap number (sym is)) in
      s.reads ∙ ap (λ ys. first_twice s.done (map number ys)) (drop_step added i x d lt is)
      ∙ ap (λ u. cond u (Some (number x)) (first_twice (number x ∷ s.done) (map number (drop (i + 1) added)))) (sym (s.sees (number x) member) ∙ h)

  pub seeks_here : (i : ℕ) (seen : ℕ → Bool) (x d : A) → Seeks number there added i seen → i < length added → x ≡ get_or added i d → seen (number x) ≡ true → first_twice there (map number added) ≡ Some (number x)
  seeks_here i seen x d s lt is h = seek_step i seen x d true s lt is h

  pub seeks_more : (i : ℕ) (seen more : ℕ → Bool) (x d : A) → Seeks number there added i seen → i < length added → x ≡ get_or added i d → seen (number x) ≡ false
      → ((q : ℕ) → more q ≡ ((number x == q) || seen q)) → Seeks number there added (i + 1) more
  seeks_more i seen more x d s lt is h k = record {
    done = number x ∷ s.done;
    reads = seek_step i seen x d false s lt is h;
    sees = λ q member. k q ∙ ap (λ t. (number x == q) || t) (s.sees q member);
  }

  pub seeks_end : (i : ℕ) (seen : ℕ → Bool) → Seeks number there added i seen → length added ≤ i → first_twice there (map number added) ≡ None
  seeks_end i seen s le = s.reads ∙ ap (λ ys. first_twice s.done (map number ys)) (drop_all i added le)

pub none_twice : {A : Type 0} (number : A → ℕ) (there : List ℕ) (added : List A) → length added ≡ 0 → first_twice there (map number added) ≡ None
none_twice number there [] e = refl
none_twice number there (x ∷ added) e = absurd (omega arith)

pub any_mapped : {A : Type 0} (number : A → ℕ) (xs : List A) (q : ℕ) → list_any (λ m. m == q) (map number xs) ≡ list_any (λ x. number x == q) xs
any_mapped number [] q = refl
any_mapped number (x ∷ xs) q = ap (λ b. (number x == q) || b) (any_mapped number xs q)

pub not_false : (b : Bool) → not b ≡ false → b ≡ true
not_false true h = refl
not_false false h = sym h

pub not_true : (b : Bool) → not b ≡ true → b ≡ false
not_true true h = sym h
not_true false h = refl
