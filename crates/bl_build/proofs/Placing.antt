-- Lists in the order of a key.
use Rattle.std.proofs.Common.{◌≡◌, ◌≢◌, ℕ, zero, suc, ◌+◌, ◌<◌, ◌≤◌, nat_lt, Bool, true, false, cond, List, [], ◌∷◌, ◌++◌, length, take, get_or, refl, sym, ◌∙◌, ap, subst, arith, inl, inr}
use Rattle.std.specs.Prelude.{◌||◌, map, filter, insert}
use Rattle.std.specs.List.{AllByRecursion, list_any}
use Rattle.std.specs.List.Sorted.{IsNonDecreasingBy, IsPartitionPoint}
use Rattle.std.proofs.lemmas.List.{take_more}
use Rattle.std.proofs.lemmas.List.Sorted.{IsNonDecreasingBy-insert}
use Rattle.std.proofs.lemmas.Bool.{cases_lt, lt-ltb, le-ltb, ltb-true, ltb-false}
use Rattle.bl_build.specs.Listing.{Ascends, placed, all_placed}

-- ---- what holds of each

all_cond : {A : Type 0} (P : A → Type 0) (t : Bool) (xs ys : List A) → AllByRecursion P xs → AllByRecursion P ys → AllByRecursion P (cond t xs ys)
all_cond P true xs ys h k = h
all_cond P false xs ys h k = k

pub all_filter : {A : Type 0} (P : A → Type 0) (test : A → Bool) (xs : List A) → AllByRecursion P xs → AllByRecursion P (filter test xs)
all_filter P test [] h = tt
all_filter P test (x ∷ xs) h = all_cond P (test x) (x ∷ filter test xs) (filter test xs) (h.0, all_filter P test xs h.1) (all_filter P test xs h.1)

pub all_map : {A B : Type 0} (P : B → Type 0) (f : A → B) (xs : List A) → AllByRecursion (λ x. P (f x)) xs → AllByRecursion P (map f xs)
all_map P f [] h = tt
all_map P f (x ∷ xs) h = (h.0, all_map P f xs h.1)

pub all_from : {A : Type 0} (P Q : A → Type 0) (xs : List A) → ((x : A) → P x → Q x) → AllByRecursion P xs → AllByRecursion Q xs
all_from P Q [] k h = tt
all_from P Q (x ∷ xs) k h = (k x h.0, all_from P Q xs k h.1)

pub all_get : {A : Type 0} (P : A → Type 0) (xs : List A) (i : ℕ) (d : A) → AllByRecursion P xs → i < length xs → P (get_or xs i d)
all_get P [] i d h lt = absurd (omega arith)
all_get P (x ∷ xs) zero d h lt = h.0
all_get P (x ∷ xs) (suc i) d h lt = all_get P xs i d h.1 (omega arith)

pub all_placed_one : {A : Type 0} (P : A → Type 0) (key : A → ℕ) (x : A) (ys : List A) → P x → AllByRecursion P ys → AllByRecursion P (placed key x ys)
all_placed_one P key x [] p h = (p, tt)
all_placed_one P key x (y ∷ ys) p h = all_cond P (nat_lt (key y) (key x)) (y ∷ placed key x ys) (x ∷ y ∷ ys) (h.0, all_placed_one P key x ys p h.1) (p, (h.0, h.1))

pub all_all_placed : {A : Type 0} (P : A → Type 0) (key : A → ℕ) (xs ys : List A) → AllByRecursion P xs → AllByRecursion P ys → AllByRecursion P (all_placed key xs ys)
all_all_placed P key [] ys h k = k
all_all_placed P key (x ∷ xs) ys h k = all_all_placed P key xs (placed key x ys) h.1 (all_placed_one P key x ys h.0 k)

-- ---- the order

ascends_cond : {A : Type 0} (key : A → ℕ) (t : Bool) (xs ys : List A) → Ascends key xs → Ascends key ys → Ascends key (cond t xs ys)
ascends_cond key true xs ys h k = h
ascends_cond key false xs ys h k = k

pub ascends_filter : {A : Type 0} (key : A → ℕ) (test : A → Bool) (xs : List A) → Ascends key xs → Ascends key (filter test xs)
ascends_filter key test [] h = tt
ascends_filter key test (x ∷ xs) h =
    ascends_cond key (test x) (x ∷ filter test xs) (filter test xs) (all_filter (λ y. key x < key y) test xs h.0, ascends_filter key test xs h.1) (ascends_filter key test xs h.1)

-- one more, of another key than those that are there
ascends_by : {A : Type 0} (key : A → ℕ) (x y : A) (ys : List A) (t : Bool) → nat_lt (key y) (key x) ≡ t → Ascends key (y ∷ ys) → key y ≢ key x → Ascends key (placed key x ys)
    → Ascends key (cond t (y ∷ placed key x ys) (x ∷ y ∷ ys))
ascends_by key x y ys true e h other rest = (all_placed_one (λ z. key y < key z) key x ys (ltb-true (key y) (key x) e) h.0, rest)
ascends_by key x y ys false e h other rest =
    let le : key x ≤ key y = ltb-false (key y) (key x) e in
    let lt : key x < key y = elim (cases_lt (key x) (key y)) [ inl less ↦ less | inr more ↦ absurd (other (omega arith)) ] in
    ((lt, all_from (λ z. key y < key z) (λ z. key x < key z) ys (λ z m. omega arith) h.0), (h.0, h.1))

pub ascends_placed : {A : Type 0} (key : A → ℕ) (x : A) (ys : List A) → Ascends key ys → AllByRecursion (λ y. key y ≢ key x) ys → Ascends key (placed key x ys)
ascends_placed key x [] h k = (tt, tt)
ascends_placed key x (y ∷ ys) h k = ascends_by key x y ys (nat_lt (key y) (key x)) refl h k.0 (ascends_placed key x ys h.1 k.1)

pub ascends_at : {A : Type 0} (key : A → ℕ) (xs : List A) → Ascends key xs → IsNonDecreasingBy key xs
ascends_at key [] h i j d le lt = absurd (omega arith)
ascends_at key (x ∷ xs) h zero zero d le lt = omega arith
ascends_at key (x ∷ xs) h zero (suc j) d le lt =
    let less : key x < key (get_or xs j d) = all_get (λ y. key x < key y) xs j d h.0 (omega arith) in omega arith
ascends_at key (x ∷ xs) h (suc i) zero d le lt = absurd (omega arith)
ascends_at key (x ∷ xs) h (suc i) (suc j) d le lt = ascends_at key xs h.1 i j d (omega arith) (omega arith)

pub strict_at : {A : Type 0} (key : A → ℕ) (xs : List A) → Ascends key xs → (i j : ℕ) (d : A) → i < j → j < length xs → key (get_or xs i d) < key (get_or xs j d)
strict_at key [] h i j d less lt = absurd (omega arith)
strict_at key (x ∷ xs) h zero zero d less lt = absurd (omega arith)
strict_at key (x ∷ xs) h zero (suc j) d less lt = all_get (λ y. key x < key y) xs j d h.0 (omega arith)
strict_at key (x ∷ xs) h (suc i) zero d less lt = absurd (omega arith)
strict_at key (x ∷ xs) h (suc i) (suc j) d less lt = strict_at key xs h.1 i j d (omega arith) (omega arith)

-- where an item is placed: behind those below it
pub placed_is_insert : {A : Type 0} (key : A → ℕ) (x : A) (ys : List A) (i : ℕ) → i ≤ length ys → ((k : ℕ) → k < i → key (get_or ys k x) < key x)
    → (i < length ys → key x ≤ key (get_or ys i x)) → placed key x ys ≡ insert ys i x
placed_is_insert key x [] zero le below above = refl
placed_is_insert key x [] (suc i) le below above = absurd (omega arith)
placed_is_insert key x (y ∷ ys) zero le below above = ap (λ t. cond t (y ∷ placed key x ys) (x ∷ y ∷ ys)) (le-ltb (key y) (key x) (above (omega arith)))
placed_is_insert key x (y ∷ ys) (suc i) le below above =
    ap (λ t. cond t (y ∷ placed key x ys) (x ∷ y ∷ ys)) (lt-ltb (key y) (key x) (below 0 (omega arith)))
    ∙ ap (λ zs. y ∷ zs) (placed_is_insert key x ys i (omega arith) (λ k lt. below (suc k) (omega arith)) (λ lt. above (omega arith)))

pub all_placed_push : {A : Type 0} (key : A → ℕ) (xs : List A) (x : A) (ys : List A) → all_placed key (xs ++ x ∷ []) ys ≡ placed key x (all_placed key xs ys)
all_placed_push key [] x ys = refl
all_placed_push key (y ∷ xs) x ys = all_placed_push key xs x (placed key y ys)

-- ---- tests of some

swap_or : (a b c : Bool) → (a || (b || c)) ≡ (b || (a || c))
swap_or true true c = refl
swap_or true false c = refl
swap_or false true c = refl
swap_or false false c = refl

any_by : {A : Type 0} (test : A → Bool) (t : Bool) (x y : A) (rest ys : List A) → list_any test rest ≡ (test x || list_any test ys) → list_any test (cond t (y ∷ rest) (x ∷ y ∷ ys)) ≡ (test x || list_any test (y ∷ ys))
any_by test true x y rest ys e = ap (λ b. test y || b) e ∙ swap_or (test y) (test x) (list_any test ys)
any_by test false x y rest ys e = refl

pub any_placed : {A : Type 0} (test : A → Bool) (key : A → ℕ) (x : A) (ys : List A) → list_any test (placed key x ys) ≡ (test x || list_any test ys)
any_placed test key x [] = refl
any_placed test key x (y ∷ ys) = any_by test (nat_lt (key y) (key x)) x y (placed key x ys) ys (any_placed test key x ys)

-- ---- the steps of loops

spread : {A : Type 0} (t : Bool) (y : A) (zs ws : List A) → cond t (y ∷ (zs ++ ws)) (zs ++ ws) ≡ cond t (y ∷ zs) zs ++ ws
spread true y zs ws = refl
spread false y zs ws = refl

pub filter_push : {A : Type 0} (p : A → Bool) (ys : List A) (x : A) → filter p (ys ++ x ∷ []) ≡ filter p ys ++ cond (p x) (x ∷ []) []
filter_push p [] x = refl
filter_push p (y ∷ ys) x = ap (λ zs. cond (p y) (y ∷ zs) zs) (filter_push p ys x) ∙ spread (p y) y (filter p ys) (cond (p x) (x ∷ []) [])

pub filter_more : {A : Type 0} (p : A → Bool) (xs : List A) (i : ℕ) (x d : A) → i < length xs → x ≡ get_or xs i d → filter p (take (i + 1) xs) ≡ filter p (take i xs) ++ cond (p x) (x ∷ []) []
filter_more p xs i x d lt is = ap (filter p) (take_more xs i d lt ∙ ap (λ y. take i xs ++ y ∷ []) (sym is)) ∙ filter_push p (take i xs) x

-- an item is placed where a search by its key points
pub record PlacedAt {A : Type 0} (key : A → ℕ) (x : A) (ys zs : List A) : Type 0 where
  pub placed : zs ≡ placed key x ys
  pub rise : IsNonDecreasingBy key zs

pub placed_at : {A : Type 0} (key : A → ℕ) (x : A) (ys zs : List A) (i : ℕ) → IsNonDecreasingBy key ys → i ≤ length ys
    → IsPartitionPoint (λ y. nat_lt (key y) (key x) ≡ true) (λ y. nat_lt (key y) (key x) ≡ false) ys i → zs ≡ insert ys i x → PlacedAt key x ys zs
placed_at {A = A} key x ys zs i rise le point is =
    let below : (k : ℕ) (d : A) → k < i → key (get_or ys k d) < key x = λ k d lt. ltb-true (key (get_or ys k d)) (key x) (point.0 k d (omega arith) lt) in
    let above : (k : ℕ) (d : A) → i ≤ k → k < length ys → key x ≤ key (get_or ys k d) = λ k d ge lt. ltb-false (key (get_or ys k d)) (key x) (point.1 k d ge lt) in
    record {
      placed = is ∙ sym (placed_is_insert key x ys i le (λ k lt. below k x lt) (λ lt. above i x (omega arith) lt));
      rise = subst (IsNonDecreasingBy key) (sym is) (IsNonDecreasingBy-insert key ys i x rise le (λ k d lt. let l : key (get_or ys k d) < key x = below k d lt in omega arith) above);
    }

pub placed_more : {A : Type 0} (key : A → ℕ) (added left : List A) (i : ℕ) (x d : A) → i < length added → x ≡ get_or added i d → placed key x (all_placed key (take i added) left) ≡ all_placed key (take (i + 1) added) left
placed_more key added left i x d lt is =
    sym (ap (λ xs. all_placed key xs left) (take_more added i d lt ∙ ap (λ y. take i added ++ y ∷ []) (sym is)) ∙ all_placed_push key (take i added) x left)

pub insert_more : {A : Type 0} (key : A → ℕ) (added left now seen next : List A) (i at r : ℕ) (x item d : A) → seen ≡ now → IsNonDecreasingBy key now → now ≡ all_placed key (take i added) left
    → i < length added → item ≡ get_or added i d → x ≡ item → r ≡ key item → at ≤ length seen → IsPartitionPoint (λ y. nat_lt (key y) r ≡ true) (λ y. nat_lt (key y) r ≡ false) seen at
    → next ≡ insert now at x → (next ≡ all_placed key (take (i + 1) added) left) × IsNonDecreasingBy key next
insert_more {A = A} key added left now seen next i at r x item d same rise so_far lt is made rank le point written =
    let P : List A → ℕ → Type 0 = λ ys n. (at ≤ length ys) × IsPartitionPoint (λ y. nat_lt (key y) n ≡ true) (λ y. nat_lt (key y) n ≡ false) ys at in
    let there : P now (key x) = subst (λ (n : ℕ). P now n) (rank ∙ ap key (sym made)) (subst (λ (ys : List A). P ys r) same (le, point)) in
    let one = placed_at key x now next at rise there.0 there.1 written in
    (one.placed ∙ ap (placed key x) so_far ∙ placed_more key added left i x d lt (made ∙ is), one.rise)

pub take_whole : {A : Type 0} (xs : List A) (i : ℕ) → length xs ≤ i → take i xs ≡ xs
take_whole [] zero le = refl
take_whole [] (suc i) le = refl
take_whole (x ∷ xs) zero le = absurd (omega arith)
take_whole (x ∷ xs) (suc i) le = ap (λ ys. x ∷ ys) (take_whole xs i (omega arith))

all_push : {A : Type 0} (P : A → Type 0) (xs : List A) (x : A) → AllByRecursion P xs → P x → AllByRecursion P (xs ++ x ∷ [])
all_push P [] x h k = (k, tt)
all_push P (y ∷ ys) x h k = (h.0, all_push P ys x h.1 k)

pub all_more : {A : Type 0} (P : A → Type 0) (xs : List A) (i : ℕ) (x d : A) → i < length xs → x ≡ get_or xs i d → AllByRecursion P (take i xs) → P x → AllByRecursion P (take (i + 1) xs)
all_more P xs i x d lt is h k = subst (AllByRecursion P) (sym (take_more xs i d lt ∙ ap (λ y. take i xs ++ y ∷ []) (sym is))) (all_push P (take i xs) x h k)

pub length_mapped : {A B : Type 0} (f : A → B) (xs : List A) → length (map f xs) ≡ length xs
length_mapped f [] = refl
length_mapped f (x ∷ xs) = ap suc (length_mapped f xs)

pub get_mapped : {A B : Type 0} (f : A → B) (xs : List A) (i : ℕ) (d : A) → get_or (map f xs) i (f d) ≡ f (get_or xs i d)
get_mapped f [] i d = refl
get_mapped f (x ∷ xs) zero d = refl
get_mapped f (x ∷ xs) (suc i) d = get_mapped f xs i d

pub map_push : {A B : Type 0} (f : A → B) (xs : List A) (x : A) → map f (xs ++ x ∷ []) ≡ map f xs ++ f x ∷ []
map_push f [] x = refl
map_push f (y ∷ ys) x = ap (λ zs. f y ∷ zs) (map_push f ys x)
