-- Lists of which something holds of each element, and the first element that passes a test.
use Rattle.std.proofs.Common.{◌≡◌, zero, suc, ◌<◌, Bool, true, false, cond, List, [], ◌∷◌, ◌++◌, length, refl, sym, ◌∙◌, ap, subst, arith}
use Rattle.std.specs.Prelude.{◌||◌, find, filter, Contains, Some, None}
use Rattle.std.specs.List.{AllByRecursion, list_any}
use Rattle.std.proofs.lemmas.Bool.{or_right}

pub all_append : {A : Type 0} (P : A → Type 0) (xs ys : List A) → AllByRecursion P xs → AllByRecursion P ys → AllByRecursion P (xs ++ ys)
all_append P [] ys h k = k
all_append P (x ∷ xs) ys h k = (h.0, all_append P xs ys h.1 k)

-- one way or the other
pub by_test : {C : Type 0} (b : Bool) → (b ≡ true → C) → (b ≡ false → C) → C
by_test true f g = f refl
by_test false f g = g refl

pub find_holds : {A : Type 0} (P : A → Type 0) (p : A → Bool) (xs : List A) (y : A) → AllByRecursion P xs → find p xs ≡ Some y → P y
find_holds P p [] y h e = absurd cc
find_holds {A = A} P p (x ∷ xs) y h e =
    by_test (p x)
    (λ t. let same : Some x ≡ Some y = sym (ap (λ b. cond b (Some x) (find p xs)) t) ∙ e in let is : x ≡ y = cc in subst P is h.0)
    (λ t. find_holds P p xs y h.1 (sym (ap (λ b. cond b (Some x) (find p xs)) t) ∙ e))

pub find_passes : {A : Type 0} (p : A → Bool) (xs : List A) (y : A) → find p xs ≡ Some y → p y ≡ true
find_passes p [] y e = absurd cc
find_passes {A = A} p (x ∷ xs) y e =
    by_test (p x)
    (λ t. let same : Some x ≡ Some y = sym (ap (λ b. cond b (Some x) (find p xs)) t) ∙ e in let is : x ≡ y = cc in sym (ap p is) ∙ t)
    (λ t. find_passes p xs y (sym (ap (λ b. cond b (Some x) (find p xs)) t) ∙ e))

pub find_there : {A : Type 0} (p : A → Bool) (xs : List A) (y : A) → find p xs ≡ Some y → Contains xs y
find_there p [] y e = absurd cc
find_there {A = A} p (x ∷ xs) y e =
    by_test (p x)
    (λ t. let same : Some x ≡ Some y = sym (ap (λ b. cond b (Some x) (find p xs)) t) ∙ e in let is : x ≡ y = cc in (0, omega arith, is))
    (λ t. let (k, lt, is) = find_there p xs y (sym (ap (λ b. cond b (Some x) (find p xs)) t) ∙ e) in (suc k, omega arith, is))

-- ---- what stays of a list

pub find_kept : {A : Type 0} (p q : A → Bool) (xs : List A) (y : A) → find p xs ≡ Some y → q y ≡ true → find p (filter q xs) ≡ Some y
find_kept p q [] y f h = absurd cc
find_kept {A = A} p q (x ∷ xs) y f h =
    by_test (p x)
    (λ t.
    let same : Some x ≡ Some y = sym (ap (λ b. cond b (Some x) (find p xs)) t) ∙ f in
    let is : x ≡ y = cc in
    let keeps : q x ≡ true = ap q is ∙ h in
    ap (λ b. find p (cond b (x ∷ filter q xs) (filter q xs))) keeps ∙ ap (λ b. cond b (Some x) (find p (filter q xs))) t ∙ ap Some is)
    (λ t.
    let same : find p (filter q xs) ≡ Some y = find_kept p q xs y (sym (ap (λ b. cond b (Some x) (find p xs)) t) ∙ f) h in
    by_test (q x)
    (λ k. ap (λ b. find p (cond b (x ∷ filter q xs) (filter q xs))) k ∙ ap (λ b. cond b (Some x) (find p (filter q xs))) t ∙ same)
    (λ k. ap (λ b. find p (cond b (x ∷ filter q xs) (filter q xs))) k ∙ same))

-- where what passes one test fails the other, nothing is found of what stays
pub find_none_kept : {A : Type 0} (p q : A → Bool) (xs : List A) → AllByRecursion (λ x. p x ≡ true → q x ≡ false) xs → find p (filter q xs) ≡ None
find_none_kept p q [] h = refl
find_none_kept {A = A} p q (x ∷ xs) h =
    let rest : find p (filter q xs) ≡ None = find_none_kept p q xs h.1 in
    by_test (q x)
    (λ k.
    by_test (p x)
    (λ t. let never : true ≡ false = sym k ∙ h.0 t in absurd cc)
    (λ t. ap (λ b. find p (cond b (x ∷ filter q xs) (filter q xs))) k ∙ ap (λ b. cond b (Some x) (find p (filter q xs))) t ∙ rest))
    (λ k. ap (λ b. find p (cond b (x ∷ filter q xs) (filter q xs))) k ∙ rest)

-- where nothing is found, nothing passes
pub none_passes : {A : Type 0} (p : A → Bool) (xs : List A) → find p xs ≡ None → AllByRecursion (λ x. p x ≡ false) xs
none_passes p [] f = tt
none_passes {A = A} p (x ∷ xs) f =
    by_test (p x)
    (λ t. let same : Some x ≡ None = sym (ap (λ b. cond b (Some x) (find p xs)) t) ∙ f in absurd cc)
    (λ t. (t, none_passes p xs (sym (ap (λ b. cond b (Some x) (find p xs)) t) ∙ f)))

pub any_there : {A : Type 0} (p : A → Bool) (xs : List A) (x : A) → Contains xs x → p x ≡ true → list_any p xs ≡ true
any_there p [] x (k, lt, is) h = absurd (omega arith)
any_there p (y ∷ xs) x (zero, lt, is) h = ap (λ b. b || list_any p xs) (ap p is ∙ h)
any_there p (y ∷ xs) x (suc k, lt, is) h =
    let small : k < length xs = omega arith in
    or_right (p y) (list_any p xs) (any_there p xs x (k, small, is) h)
