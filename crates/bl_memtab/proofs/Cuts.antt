-- Lists of which a test holds up to a place.
use Rattle.std.proofs.Common.{◌≡◌, ℕ, zero, suc, ◌+◌, ◌≤◌, Bool, true, false, cond, List, [], ◌∷◌, ◌++◌, length, take, drop, refl, sym, ◌∙◌, ap, arith}
use Rattle.std.specs.Prelude.{find, filter, not, slice_get, Some, None}
use Rattle.std.specs.List.{AllByRecursion, prefix_len}
use Rattle.std.specs.List.Sorted.{IsPartitionedBy, IsPartitionPoint}
use Rattle.std.proofs.lemmas.Bool.{false≢true}
use Rattle.std.proofs.lemmas.List.Sums.{prefix_len_is}
use Rattle.bl_code.proofs.Basics.{all_get}
use Rattle.bl_entry.proofs.ListLemmas.{by_test}

-- whatever comes behind an item that fails fails too
unfoldable pub IsCut : {A : Type 0} → (A → Bool) → List A → Type 0
IsCut p [] = Unit {0}
IsCut p (x ∷ xs) = (p x ≡ false → AllByRecursion (λ y. p y ≡ false) xs) × IsCut p xs

pub all_front : {A : Type 0} (P : A → Type 0) (xs ys : List A) → AllByRecursion P (xs ++ ys) → AllByRecursion P xs
all_front P [] ys h = tt
all_front P (x ∷ xs) ys h = (h.0, all_front P xs ys h.1)

pub all_back : {A : Type 0} (P : A → Type 0) (xs ys : List A) → AllByRecursion P (xs ++ ys) → AllByRecursion P ys
all_back P [] ys h = h
all_back P (x ∷ xs) ys h = all_back P xs ys h.1

pub cut_parted : {A : Type 0} (p : A → Bool) (xs : List A) → IsCut p xs → IsPartitionedBy p xs
unfolding IsCut
cut_parted p [] h i j d le lt t = absurd (omega arith)
cut_parted p (x ∷ xs) h zero zero d le lt t = t
cut_parted p (x ∷ xs) h zero (suc j) d le lt t =
    by_test (p x) (λ e. e) (λ e. absurd (false≢true (sym (all_get (λ y. p y ≡ false) xs j d (h.0 e) (omega arith)) ∙ t)))
cut_parted p (x ∷ xs) h (suc i) zero d le lt t = absurd (omega arith)
cut_parted p (x ∷ xs) h (suc i) (suc j) d le lt t = cut_parted p xs h.1 i j d (omega arith) (omega arith) t

pub cut_front : {A : Type 0} (p : A → Bool) (xs ys : List A) → IsCut p (xs ++ ys) → IsCut p xs
unfolding IsCut
cut_front p [] ys h = tt
cut_front p (x ∷ xs) ys h = ((λ e. all_front (λ y. p y ≡ false) xs ys (h.0 e)), cut_front p xs ys h.1)

pub cut_back : {A : Type 0} (p : A → Bool) (xs ys : List A) → IsCut p (xs ++ ys) → IsCut p ys
unfolding IsCut
cut_back p [] ys h = h
cut_back p (x ∷ xs) ys h = cut_back p xs ys h.1

-- the place that a search finds is the length of the part that passes
pub point_is : {A : Type 0} (p : A → Bool) (xs : List A) (n : ℕ) → n ≤ length xs → IsPartitionPoint (λ y. p y ≡ true) (λ y. p y ≡ false) xs n → n ≡ prefix_len p xs
point_is p [] n le h = omega arith
point_is p (x ∷ xs) n le h =
    sym (prefix_len_is p (x ∷ xs) n x le (λ k lt. h.0 k x (omega arith) lt) (λ lt. h.1 n x (omega arith) lt))

-- the first that fails
pub first_failing : {A : Type 0} (p : A → Bool) (xs : List A) → find (λ x. not (p x)) xs ≡ slice_get xs (prefix_len p xs)
first_failing p [] = refl
first_failing {A = A} p (x ∷ xs) = step (p x) (first_failing p xs)
  where
    step : (b : Bool) → find (λ y. not (p y)) xs ≡ slice_get xs (prefix_len p xs)
        → cond (not b) (Some x) (find (λ y. not (p y)) xs) ≡ slice_get (x ∷ xs) (cond b (1 + prefix_len p xs) 0)
    step true e = e ∙ ap (slice_get (x ∷ xs)) one
      where
        one : suc (prefix_len p xs) ≡ 1 + prefix_len p xs
        one = omega arith
    step false e = refl

pub find_same : {A : Type 0} (p q : A → Bool) (xs : List A) → ((x : A) → p x ≡ q x) → find p xs ≡ find q xs
find_same p q [] h = refl
find_same p q (x ∷ xs) h = λ i. cond (h x i) (Some x) (find_same p q xs h i)

pub find_none : {A : Type 0} (p : A → Bool) (xs : List A) → AllByRecursion (λ x. p x ≡ false) xs → find p xs ≡ None
find_none p [] h = refl
find_none p (x ∷ xs) h = ap (λ b. cond b (Some x) (find p xs)) h.0 ∙ find_none p xs h.1

pub all_pass : {A : Type 0} (p : A → Bool) (xs ys : List A) → AllByRecursion (λ x. p x ≡ true) xs → find (λ x. not (p x)) (xs ++ ys) ≡ find (λ x. not (p x)) ys
all_pass p [] ys h = refl
all_pass p (x ∷ xs) ys h = ap (λ b. cond (not b) (Some x) (find (λ y. not (p y)) (xs ++ ys))) h.0 ∙ all_pass p xs ys h.1

pub prefix_none : {A : Type 0} (p : A → Bool) (xs : List A) → AllByRecursion (λ x. p x ≡ false) xs → prefix_len p xs ≡ 0
prefix_none p [] h = refl
prefix_none p (x ∷ xs) h = ap (λ b. cond b (1 + prefix_len p xs) 0) h.0

pub prefix_all : {A : Type 0} (p : A → Bool) (xs ys : List A) → AllByRecursion (λ x. p x ≡ true) xs → prefix_len p (xs ++ ys) ≡ length xs + prefix_len p ys
prefix_all p [] ys h = omega arith
prefix_all p (x ∷ xs) ys h = ap (λ b. cond b (1 + prefix_len p (xs ++ ys)) 0) h.0 ∙ omega (arith, prefix_all p xs ys h.1)

filter_none : {A : Type 0} (p : A → Bool) (xs : List A) → AllByRecursion (λ x. p x ≡ false) xs → filter p xs ≡ []
filter_none p [] h = refl
filter_none p (x ∷ xs) h = ap (λ b. cond b (x ∷ filter p xs) (filter p xs)) h.0 ∙ filter_none p xs h.1

pub filter_front : {A : Type 0} (p : A → Bool) (xs : List A) → IsCut p xs → filter p xs ≡ take (prefix_len p xs) xs
unfolding IsCut
filter_front p [] h = refl
filter_front p (x ∷ xs) h =
    let one : 1 + prefix_len p xs ≡ suc (prefix_len p xs) = omega arith in
    by_test (p x)
    (λ e.
    ap (λ b. cond b (x ∷ filter p xs) (filter p xs)) e ∙ ap (λ zs. x ∷ zs) (filter_front p xs h.1)
    ∙ sym (ap (λ b. take (cond b (1 + prefix_len p xs) 0) (x ∷ xs)) e ∙ ap (λ k. take k (x ∷ xs)) one))
    (λ e.
    ap (λ b. cond b (x ∷ filter p xs) (filter p xs)) e ∙ filter_none p xs (h.0 e)
    ∙ sym (ap (λ b. take (cond b (1 + prefix_len p xs) 0) (x ∷ xs)) e))

filter_all : {A : Type 0} (q : A → Bool) (xs : List A) → AllByRecursion (λ x. q x ≡ true) xs → filter q xs ≡ xs
filter_all q [] h = refl
filter_all q (x ∷ xs) h = ap (λ b. cond b (x ∷ filter q xs) (filter q xs)) h.0 ∙ ap (λ zs. x ∷ zs) (filter_all q xs h.1)

all_other : {A : Type 0} (p q : A → Bool) (xs : List A) → AllByRecursion (λ x. q x ≡ not (p x)) xs → AllByRecursion (λ x. p x ≡ false) xs → AllByRecursion (λ x. q x ≡ true) xs
all_other p q [] h k = tt
all_other p q (x ∷ xs) h k = (h.0 ∙ ap not k.0, all_other p q xs h.1 k.1)

pub filter_back : {A : Type 0} (p q : A → Bool) (xs : List A) → IsCut p xs → AllByRecursion (λ x. q x ≡ not (p x)) xs → filter q xs ≡ drop (prefix_len p xs) xs
unfolding IsCut
filter_back p q [] h k = refl
filter_back p q (x ∷ xs) h k =
    let one : 1 + prefix_len p xs ≡ suc (prefix_len p xs) = omega arith in
    by_test (p x)
    (λ e.
    ap (λ b. cond b (x ∷ filter q xs) (filter q xs)) (k.0 ∙ ap not e) ∙ filter_back p q xs h.1 k.1
    ∙ sym (ap (λ b. drop (cond b (1 + prefix_len p xs) 0) (x ∷ xs)) e ∙ ap (λ n. drop n (x ∷ xs)) one))
    (λ e.
    filter_all q (x ∷ xs) (k.0 ∙ ap not e, all_other p q xs k.1 (h.0 e))
    ∙ sym (ap (λ b. drop (cond b (1 + prefix_len p xs) 0) (x ∷ xs)) e))
