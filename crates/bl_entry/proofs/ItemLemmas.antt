-- Steps that may give nothing, and facts of each element.
use Rattle.std.proofs.Common.{◌≡◌, zero, suc, ◌<◌, true, List, [], ◌∷◌, length, refl, sym, ◌∙◌, ap, arith, Option, Some, None}
use Rattle.std.specs.Prelude.{map, Contains, is_some, option_and_then, Result, Ok, Err}
use Rattle.std.specs.List.{AllByRecursion}
use Rattle.std.specs.Option.{option_map}
use Rattle.std.specs.Result.{result_ok}
use Rattle.bl_code.proofs.Basics.{all_from}
use Rattle.bl_entry.specs.Items.{each_of}

pub some_is : {A : Type 0} {x y : A} → Some x ≡ Some y → x ≡ y
some_is e = cc

-- what a step that gave something was made of
pub record Went {A B : Type 0} (o : Option A) (f : A → Option B) (y : B) : Type 0 where
  pub from : A
  pub gives : o ≡ Some from
  pub makes : f from ≡ Some y

pub went : {A B : Type 0} (o : Option A) (f : A → Option B) (y : B) → option_and_then f o ≡ Some y → Went o f y
went None f y e = absurd cc
went (Some x) f y e = record { from = x; gives = refl; makes = e }

pub ok_of : {A E : Type 0} (r : Result A E) (x : A) → result_ok r ≡ Some x → r ≡ Ok x
ok_of (Ok y) x e = ap Ok (some_is e)
ok_of (Err f) x e = absurd cc

pub mapped_from : {A B : Type 0} (f : A → B) (o : Option A) (y : B) → option_map f o ≡ Some y → (x : A) × (o ≡ Some x) × (f x ≡ y)
mapped_from f None y e = absurd cc
mapped_from f (Some x) y e = (x, refl, some_is e)

-- ---- lists of what is given

pub record Cons {A B : Type 0} (f : A → Option B) (x : A) (xs : List A) (ys : List B) : Type 0 where
  pub first : B
  pub rest : List B
  pub gives : f x ≡ Some first
  pub more : each_of f xs ≡ Some rest
  pub is : first ∷ rest ≡ ys

pub each_cons : {A B : Type 0} (f : A → Option B) (x : A) (xs : List A) (ys : List B) → each_of f (x ∷ xs) ≡ Some ys → Cons f x xs ys
each_cons f x xs ys e =
    let a = went (f x) (λ y. option_and_then (λ zs. Some (y ∷ zs)) (each_of f xs)) ys e in
    let b = went (each_of f xs) (λ zs. Some (a.from ∷ zs)) ys a.makes in
    record { first = a.from; rest = b.from; gives = a.gives; more = b.gives; is = some_is b.makes }

pub each_same : {A B : Type 0} (f g : A → Option B) (xs : List A) → AllByRecursion (λ x. g x ≡ f x) xs → each_of g xs ≡ each_of f xs
each_same f g [] h = refl
each_same f g (x ∷ xs) h = λ i. option_and_then (λ y. option_and_then (λ ys. Some (y ∷ ys)) (each_same f g xs h.1 i)) (h.0 i)

-- each element gives something
pub each_given : {A B : Type 0} (f : A → Option B) (xs : List A) (ys : List B) → each_of f xs ≡ Some ys → AllByRecursion (λ x. is_some (f x) ≡ true) xs
each_given f [] ys e = tt
each_given f (x ∷ xs) ys e = let c = each_cons f x xs ys e in (ap is_some c.gives, each_given f xs c.rest c.more)

-- what is given says what it was made of
pub each_from : {A B : Type 0} (f : A → Option B) (g : B → A) (xs : List A) (ys : List B) → ((x : A) (y : B) → f x ≡ Some y → g y ≡ x) → each_of f xs ≡ Some ys → map g ys ≡ xs
each_from f g [] ys back e = ap (map g) (sym (some_is e))
each_from f g (x ∷ xs) ys back e =
    let c = each_cons f x xs ys e in
    ap (map g) (sym c.is) ∙ (λ i. back x c.first c.gives i ∷ each_from f g xs c.rest back c.more i)

-- ---- facts of each element

pub all_of_map : {A B : Type 0} (f : A → B) (P : B → Type 0) (xs : List A) → AllByRecursion (λ x. P (f x)) xs → AllByRecursion P (map f xs)
all_of_map f P [] h = tt
all_of_map f P (x ∷ xs) h = (h.0, all_of_map f P xs h.1)

behind_first : {A : Type 0} (x y : A) (xs : List A) → Contains xs y → Contains (x ∷ xs) y
behind_first x y xs (k, less, is) = (suc k, omega arith, is)

-- and each is one of the list
pub all_contained : {A : Type 0} (P : A → Type 0) (xs : List A) → AllByRecursion P xs → AllByRecursion (λ x. Contains xs x × P x) xs
all_contained P [] h = tt
all_contained P (x ∷ xs) h =
    (((zero, omega arith, refl), h.0), all_from (λ y. Contains xs y × P y) (λ y. Contains (x ∷ xs) y × P y) xs (λ y (c, p). (behind_first x y xs c, p)) (all_contained P xs h.1))

pub contains_map : {A B : Type 0} (f : A → B) (xs : List A) (x : A) → Contains xs x → Contains (map f xs) (f x)
contains_map f [] x (k, less, is) = absurd (omega arith)
contains_map f (y ∷ ys) x (zero, less, is) = (zero, omega arith, ap f is)
contains_map f (y ∷ ys) x (suc k, less, is) =
    let small : k < length ys = omega arith in
    let there : Contains (map f ys) (f x) = contains_map f ys x (k, small, is) in
    behind_first (f y) (f x) (map f ys) there
