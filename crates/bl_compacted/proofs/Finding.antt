-- Steps that may give nothing.
use Rattle.std.proofs.Common.{◌≡◌, List, ◌∷◌, refl, Option, Some, None}
use Rattle.std.specs.Prelude.{option_and_then}
use Rattle.bl_entry.specs.Items.{each_of}
use Rattle.bl_out.specs.Finding.{◌then◌}

pub some_is : {A : Type 0} {x y : A} → Some x ≡ Some y → x ≡ y
some_is e = cc

-- what a step that gave something was made of
pub record Went {A B : Type 0} (o : Option A) (f : A → Option B) (y : B) : Type 0 where
  pub from : A
  pub gives : o ≡ Some from
  pub makes : f from ≡ Some y

pub went : {A B : Type 0} (o : Option A) (f : A → Option B) (y : B) → option_and_then f o ≡ Some y → Went o f y
went None f y e = absurd cc
went (Some x) f y e = record { from = x; gives = refl; makes = e }

pub record Cons {A B : Type 0} (f : A → Option B) (x : A) (xs : List A) (ys : List B) : Type 0 where
  pub first : B
  pub rest : List B
  pub gives : f x ≡ Some first
  pub more : each_of f xs ≡ Some rest
  pub is : first ∷ rest ≡ ys

pub each_cons : {A B : Type 0} (f : A → Option B) (x : A) (xs : List A) (ys : List B) → each_of f (x ∷ xs) ≡ Some ys → Cons f x xs ys
each_cons f x xs ys e =
    let a = went (f x) (λ y. each_of f xs then λ zs. Some (y ∷ zs)) ys e in
    let b = went (each_of f xs) (λ zs. Some (a.from ∷ zs)) ys a.makes in
    record { first = a.from; rest = b.from; gives = a.gives; more = b.gives; is = some_is b.makes }
