-- Numbers in ascending order.
use Rattle.std.proofs.Common.{◌≡◌, ℕ, suc, ◌+◌, ◌<◌, ◌≤◌, ◌==◌, nat_lt, Bool, true, false, cond, List, [], ◌∷◌, refl, sym, ◌∙◌, ap, subst, arith, eq-eqb}
use Rattle.std.specs.Prelude.{count_by}
use Rattle.std.specs.List.{AllByRecursion}
use Rattle.std.specs.List.Sorted.{IsNonDecreasingBy, IsPermutation}
use Rattle.std.proofs.lemmas.List.Elements.{recursion_from_All}
use Rattle.std.proofs.lemmas.List.Sorted.{sum_by-IsPermutation}
use Rattle.std.proofs.lemmas.List.Sums.{sum_by-cons}
use Rattle.bl_pick.specs.Picking.{ascending, with_number}
use Rattle.bl_pick.proofs.Counting.{by_test}

abbrev Rises : List ℕ → Type 0
Rises [] = Unit {0}
Rises (x ∷ xs) = AllByRecursion (λ y. x ≤ y) xs × Rises xs

count : ℕ → List ℕ → ℕ
count k xs = count_by (λ x. x == k) xs

one : Bool → ℕ
one b = cond b 1 0

rises_from : (xs : List ℕ) → IsNonDecreasingBy (λ x. x) xs → Rises xs
rises_from [] h = tt
rises_from (x ∷ xs) h =
    (recursion_from_All (λ y. x ≤ y) xs (λ k d lt. h 0 (suc k) d (omega arith) (omega arith)), rises_from xs (λ i j d le lt. h (suc i) (suc j) d (omega arith) (omega arith)))

all_with : (P : ℕ → Type 0) (n : ℕ) (ms : List ℕ) → P n → AllByRecursion P ms → AllByRecursion P (with_number n ms)
all_with P n [] p h = (p, tt)
all_with P n (m ∷ ms) p h = elim (nat_lt m n) as (λ b. AllByRecursion P (cond b (m ∷ with_number n ms) (n ∷ m ∷ ms))) [ true ↦ (h.0, all_with P n ms p h.1) | false ↦ (p, h) ]

all_up : (m n : ℕ) (xs : List ℕ) → n ≤ m → AllByRecursion (λ y. m ≤ y) xs → AllByRecursion (λ y. n ≤ y) xs
all_up m n [] le h = tt
all_up m n (x ∷ xs) le h = (omega (arith, h.0), all_up m n xs le h.1)

below : (m n : ℕ) → nat_lt m n ≡ true → m ≤ n
below m n e = grind arith

not_below : (m n : ℕ) → nat_lt m n ≡ false → n ≤ m
not_below m n e = grind arith

rises_with : (n : ℕ) (ms : List ℕ) → Rises ms → Rises (with_number n ms)
rises_with n [] h = (tt, tt)
rises_with n (m ∷ ms) h =
    by_test (nat_lt m n)
    (λ e. subst Rises (sym (ap (λ b. cond b (m ∷ with_number n ms) (n ∷ m ∷ ms)) e)) (all_with (λ y. m ≤ y) n ms (below m n e) h.0, rises_with n ms h.1))
    (λ e. subst Rises (sym (ap (λ b. cond b (m ∷ with_number n ms) (n ∷ m ∷ ms)) e)) ((not_below m n e, all_up m n ms (not_below m n e) h.0), h))

rises_ascending : (ns : List ℕ) → Rises (ascending ns)
rises_ascending [] = tt
rises_ascending (n ∷ ns) = rises_with n (ascending ns) (rises_ascending ns)

count_cons : (k x : ℕ) (xs : List ℕ) → count k (x ∷ xs) ≡ one (x == k) + count k xs
unfolding count one
count_cons k x xs = sum_by-cons (λ y. cond (y == k) 1 0) x xs

count_with : (k n : ℕ) (ms : List ℕ) → count k (with_number n ms) ≡ one (n == k) + count k ms
count_with k n [] = count_cons k n []
count_with k n (m ∷ ms) =
    by_test (nat_lt m n)
    (λ e.
    ap (λ b. count k (cond b (m ∷ with_number n ms) (n ∷ m ∷ ms))) e ∙ count_cons k m (with_number n ms) ∙ ap (λ c. one (m == k) + c) (count_with k n ms)
    ∙ swapped (one (m == k)) (one (n == k)) (count k ms) ∙ sym (ap (λ c. one (n == k) + c) (count_cons k m ms)))
    (λ e. ap (λ b. count k (cond b (m ∷ with_number n ms) (n ∷ m ∷ ms))) e ∙ count_cons k n (m ∷ ms))
  where
    swapped : (a b c : ℕ) → a + (b + c) ≡ b + (a + c)
    swapped a b c = omega arith

count_ascending : (k : ℕ) (ns : List ℕ) → count k (ascending ns) ≡ count k ns
count_ascending k [] = refl
count_ascending k (n ∷ ns) = count_with k n (ascending ns) ∙ ap (λ c. one (n == k) + c) (count_ascending k ns) ∙ sym (count_cons k n ns)

itself : (x : ℕ) → one (x == x) ≡ 1
unfolding one
itself x = ap (λ b. one b) (eq-eqb x x refl)

other : (x y : ℕ) → x < y → one (y == x) ≡ 0
unfolding one
other x y lt = ap (λ b. one b) (no x y lt)
  where
    no : (a b : ℕ) → a < b → (b == a) ≡ false
    no a b l = grind arith

count_none : (x y : ℕ) (ys : List ℕ) → x < y → AllByRecursion (λ z. y ≤ z) ys → count x ys ≡ 0
unfolding count
count_none x y [] lt h = refl
count_none x y (z ∷ ys) lt h = count_cons x z ys ∙ omega (arith, other x z (omega (arith, h.0)), count_none x y ys lt h.1)

no_less : (x y : ℕ) (xs ys : List ℕ) → AllByRecursion (λ z. y ≤ z) ys → count x (x ∷ xs) ≡ count x (y ∷ ys) → x < y → ⊥
no_less x y xs ys h same lt =
    omega (arith, same, count_cons x x xs, count_cons x y ys, itself x, other x y lt, count_none x y ys lt h)

unique : (xs ys : List ℕ) → Rises xs → Rises ys → ((k : ℕ) → count k xs ≡ count k ys) → xs ≡ ys
unfolding count
unique [] [] p q h = refl
unique [] (y ∷ ys) p q h = absurd (nothing (count y ys) (h y ∙ count_cons y y ys ∙ ap (λ c. c + count y ys) (itself y)))
  where
    none : count y [] ≡ 0
    none = refl

    nothing : (c : ℕ) → count y [] ≡ 1 + c → ⊥
    nothing c e = omega (arith, e, none)
unique (x ∷ xs) [] p q h = absurd (nothing (count x xs) (sym (h x) ∙ count_cons x x xs ∙ ap (λ c. c + count x xs) (itself x)))
  where
    none : count x [] ≡ 0
    none = refl

    nothing : (c : ℕ) → count x [] ≡ 1 + c → ⊥
    nothing c e = omega (arith, e, none)
unique (x ∷ xs) (y ∷ ys) p q h =
    let same : x ≡ y = alike x y (no_less x y xs ys q.0 (h x)) (no_less y x ys xs p.0 (sym (h y))) in
    let rest : xs ≡ ys = unique xs ys p.1 q.1 (λ k. cancel (one (x == k)) (count k xs) (count k ys) (sym (count_cons k x xs) ∙ h k ∙ count_cons k y ys ∙ ap (λ z. one (z == k) + count k ys) (sym same))) in
    λ i. same i ∷ rest i
  where
    alike : (a b : ℕ) → (a < b → ⊥) → (b < a → ⊥) → a ≡ b
    alike a b f g = by_test (nat_lt a b) (λ e. absurd (f (lt a b e))) (λ e. by_test (nat_lt b a) (λ r. absurd (g (lt b a r))) (λ r. both a b e r))
      where
        lt : (m n : ℕ) → nat_lt m n ≡ true → m < n
        lt m n t = grind arith

        both : (m n : ℕ) → nat_lt m n ≡ false → nat_lt n m ≡ false → m ≡ n
        both m n t u = grind arith

    cancel : (c a b : ℕ) → c + a ≡ c + b → a ≡ b
    cancel c a b e = omega arith

-- what a sort gives
pub sorted_is : (old new : List ℕ) → IsPermutation old new → IsNonDecreasingBy (λ x. x) new → new ≡ ascending old
unfolding count
sorted_is old new perm rises =
    unique new (ascending old) (rises_from new rises) (rises_ascending old)
    (λ k. sum_by-IsPermutation (λ x. cond (x == k) 1 0) old new perm ∙ sym (count_ascending k old))
