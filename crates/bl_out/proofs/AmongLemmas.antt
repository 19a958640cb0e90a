-- Elements of lists, and lists in which no two are alike.
use Rattle.std.proofs.Common.{◌≡◌, zero, suc, ◌<◌, ◌≤◌, Bool, true, false, cond, List, [], ◌∷◌, ◌++◌, length, refl, sym, ◌∙◌, ap, subst, arith, inl, inr}
use Rattle.std.specs.Prelude.{◌⊎◌, ◌||◌, map, filter, Contains, Option, Some}
use Rattle.std.specs.List.{AllByRecursion, list_any, IsDistinct}
use Rattle.bl_entry.specs.Items.{each_of}
use Rattle.bl_entry.proofs.ItemLemmas.{each_cons, some_is}
use Rattle.bl_entry.proofs.ListLemmas.{all_append}
use Rattle.bl_out.specs.Finding.{◌then◌}

-- ---- one of the elements

abbrev pub Among : {A : Type 0} → A → List A → Type 0
Among x [] = ⊥
Among x (y ∷ ys) = (y ≡ x) ⊎ Among x ys

pub to_among : {A : Type 0} (xs : List A) (x : A) → Contains xs x → Among x xs
to_among [] x (k, less, is) = absurd (omega arith)
to_among (y ∷ ys) x (zero, less, is) = inl is
to_among (y ∷ ys) x (suc k, less, is) = let small : k < length ys = omega arith in inr (to_among ys x (k, small, is))

behind_first : {A : Type 0} (x y : A) (ys : List A) → Contains ys x → Contains (y ∷ ys) x
behind_first x y ys (k, less, is) = (suc k, omega arith, is)

pub from_among : {A : Type 0} (xs : List A) (x : A) → Among x xs → Contains xs x
from_among [] x h = absurd h
from_among (y ∷ ys) x (inl is) = (zero, omega arith, is)
from_among (y ∷ ys) x (inr h) = behind_first x y ys (from_among ys x h)

pub among_left : {A : Type 0} (xs ys : List A) (x : A) → Among x xs → Among x (xs ++ ys)
among_left [] ys x h = absurd h
among_left (z ∷ xs) ys x (inl is) = inl is
among_left (z ∷ xs) ys x (inr h) = inr (among_left xs ys x h)

pub among_right : {A : Type 0} (xs ys : List A) (x : A) → Among x ys → Among x (xs ++ ys)
among_right [] ys x h = h
among_right (z ∷ xs) ys x h = inr (among_right xs ys x h)

pub among_parts : {A : Type 0} (xs ys : List A) (x : A) → Among x (xs ++ ys) → Among x xs ⊎ Among x ys
among_parts [] ys x h = inr h
among_parts (z ∷ xs) ys x (inl is) = inl (inl is)
among_parts (z ∷ xs) ys x (inr h) = elim (among_parts xs ys x h) [ inl a ↦ inl (inr a) | inr b ↦ inr b ]

pub among_map : {A B : Type 0} (f : A → B) (xs : List A) (x : A) → Among x xs → Among (f x) (map f xs)
among_map f [] x h = h
among_map f (y ∷ ys) x (inl is) = inl (ap f is)
among_map f (y ∷ ys) x (inr h) = inr (among_map f ys x h)

pub record Mapped {A B : Type 0} (f : A → B) (xs : List A) (y : B) : Type 0 where
  pub from : A
  pub there : Among from xs
  pub is : f from ≡ y

mapped_more : {A B : Type 0} (f : A → B) (x : A) (xs : List A) (y : B) → Mapped f xs y → Mapped f (x ∷ xs) y
mapped_more f x xs y m = record { from = m.from; there = inr m.there; is = m.is }

pub among_mapped : {A B : Type 0} (f : A → B) (xs : List A) (y : B) → Among y (map f xs) → Mapped f xs y
among_mapped f [] y h = absurd h
among_mapped f (x ∷ xs) y (inl is) = record { from = x; there = inl refl; is = is }
among_mapped f (x ∷ xs) y (inr h) = mapped_more f x xs y (among_mapped f xs y h)

-- ---- those that pass a test

further : {A : Type 0} (p : A → Bool) (y x : A) (ys : List A) → Among x ys × (p x ≡ true) → Among x (y ∷ ys) × (p x ≡ true)
further p y x ys (a, b) = (inr a, b)

filter_by : {A : Type 0} (p : A → Bool) (y : A) (ys : List A) (x : A) (b : Bool) → p y ≡ b → Among x (cond b (y ∷ filter p ys) (filter p ys)) → (Among x (filter p ys) → Among x ys × (p x ≡ true)) → Among x (y ∷ ys) × (p x ≡ true)
filter_by p y ys x true t (inl is) rest = (inl is, ap p (sym is) ∙ t)
filter_by p y ys x true t (inr more) rest = further p y x ys (rest more)
filter_by p y ys x false f g rest = further p y x ys (rest g)

pub among_filter : {A : Type 0} (p : A → Bool) (xs : List A) (x : A) → Among x (filter p xs) → Among x xs × (p x ≡ true)
among_filter p [] x h = absurd h
among_filter p (y ∷ ys) x h = filter_by p y ys x (p y) refl h (among_filter p ys x)

pub to_filter : {A : Type 0} (p : A → Bool) (xs : List A) (x : A) → Among x xs → p x ≡ true → Among x (filter p xs)
to_filter p [] x h t = h
to_filter p (y ∷ ys) x (inl is) t = let here : p y ≡ true = ap p is ∙ t in subst (λ b. Among x (cond b (y ∷ filter p ys) (filter p ys))) (sym here) (inl is)
to_filter p (y ∷ ys) x (inr h) t = by (p y) (to_filter p ys x h t)
  where
    by : (b : Bool) → Among x (filter p ys) → Among x (cond b (y ∷ filter p ys) (filter p ys))
    by true g = inr g
    by false g = g

pub none_passes : {A : Type 0} (p : A → Bool) (xs : List A) → ((x : A) → Among x xs → p x ≡ false) → list_any p xs ≡ false
none_passes p [] h = refl
none_passes p (x ∷ xs) h = λ i. h x (inl refl) i || none_passes p xs (λ y there. h y (inr there)) i

-- ---- each element

pub all_at : {A : Type 0} (P : A → Type 0) (xs : List A) (x : A) → AllByRecursion P xs → Among x xs → P x
all_at P [] x h there = absurd there
all_at P (y ∷ ys) x h (inl is) = subst P is h.0
all_at P (y ∷ ys) x h (inr there) = all_at P ys x h.1 there

pub all_by : {A : Type 0} (P : A → Type 0) (xs : List A) → ((x : A) → Among x xs → P x) → AllByRecursion P xs
all_by P [] h = tt
all_by P (x ∷ xs) h = (h x (inl refl), all_by P xs (λ y there. h y (inr there)))

pub all_left : {A : Type 0} (P : A → Type 0) (xs ys : List A) → AllByRecursion P (xs ++ ys) → AllByRecursion P xs
all_left P [] ys h = tt
all_left P (x ∷ xs) ys h = (h.0, all_left P xs ys h.1)

pub all_right : {A : Type 0} (P : A → Type 0) (xs ys : List A) → AllByRecursion P (xs ++ ys) → AllByRecursion P ys
all_right P [] ys h = h
all_right P (x ∷ xs) ys h = all_right P xs ys h.1

pub all_unmapped : {A B : Type 0} (f : A → B) (P : B → Type 0) (xs : List A) → AllByRecursion P (map f xs) → AllByRecursion (λ x. P (f x)) xs
all_unmapped f P [] h = tt
all_unmapped f P (x ∷ xs) h = (h.0, all_unmapped f P xs h.1)

-- ---- lists in which no two are alike

pub distinct_left : {A : Type 0} (same : A → A → Bool) (xs ys : List A) → IsDistinct same (xs ++ ys) → IsDistinct same xs
unfolding IsDistinct
distinct_left same [] ys p = tt
distinct_left same (x ∷ xs) ys p = (all_left (λ y. same x y ≡ false) xs ys p.0, distinct_left same xs ys p.1)

pub distinct_right : {A : Type 0} (same : A → A → Bool) (xs ys : List A) → IsDistinct same (xs ++ ys) → IsDistinct same ys
unfolding IsDistinct
distinct_right same [] ys p = p
distinct_right same (x ∷ xs) ys p = distinct_right same xs ys p.1

pub distinct_cross : {A : Type 0} (same : A → A → Bool) (xs ys : List A) → IsDistinct same (xs ++ ys) → (x y : A) → Among x xs → Among y ys → same x y ≡ false
unfolding IsDistinct
distinct_cross same [] ys p x y a b = absurd a
distinct_cross same (z ∷ xs) ys p x y (inl is) b = subst (λ w. same w y ≡ false) is (all_at (λ v. same z v ≡ false) (xs ++ ys) y p.0 (among_right xs ys y b))
distinct_cross same (z ∷ xs) ys p x y (inr a) b = distinct_cross same xs ys p.1 x y a b

pub distinct_join : {A : Type 0} (same : A → A → Bool) (xs ys : List A) → IsDistinct same xs → IsDistinct same ys → ((x y : A) → Among x xs → Among y ys → same x y ≡ false) → IsDistinct same (xs ++ ys)
unfolding IsDistinct
distinct_join same [] ys p q cross = q
distinct_join same (x ∷ xs) ys p q cross =
    (all_append (λ y. same x y ≡ false) xs ys p.0 (all_by (λ y. same x y ≡ false) ys (λ y there. cross x y (inl refl) there)), distinct_join same xs ys p.1 q (λ u v a b. cross u v (inr a) b))

pub distinct_filter : {A : Type 0} (same : A → A → Bool) (p : A → Bool) (xs : List A) → IsDistinct same xs → IsDistinct same (filter p xs)
unfolding IsDistinct
distinct_filter same p [] h = h
distinct_filter same p (x ∷ xs) h = by (p x) (distinct_filter same p xs h.1) (all_by (λ y. same x y ≡ false) (filter p xs) (λ y there. all_at (λ v. same x v ≡ false) xs y h.0 (among_filter p xs y there).0))
  where
    by : (b : Bool) → IsDistinct same (filter p xs) → AllByRecursion (λ y. same x y ≡ false) (filter p xs) → IsDistinct same (cond b (x ∷ filter p xs) (filter p xs))
    by true g k = (k, g)
    by false g k = g

pub distinct_one : {A : Type 0} (same : A → A → Bool) (xs : List A) → length xs ≤ 1 → IsDistinct same xs
unfolding IsDistinct
distinct_one same [] h = tt
distinct_one same (x ∷ []) h = (tt, tt)
distinct_one same (x ∷ y ∷ xs) h = absurd (omega arith)

-- ---- what is given of each

pub each_more : {A B : Type 0} (f : A → Option B) (x : A) (xs : List A) (y : B) (ys : List B) → f x ≡ Some y → each_of f xs ≡ Some ys → each_of f (x ∷ xs) ≡ Some (y ∷ ys)
each_more f x xs y ys e h = ap (λ o. o then λ z. each_of f xs then λ zs. Some (z ∷ zs)) e ∙ ap (λ o. o then λ zs. Some (y ∷ zs)) h

pub each_join : {A B : Type 0} (f : A → Option B) (xs ys : List A) (us vs : List B) → each_of f xs ≡ Some us → each_of f ys ≡ Some vs → each_of f (xs ++ ys) ≡ Some (us ++ vs)
each_join f [] ys us vs h k = k ∙ ap (λ ws. Some (ws ++ vs)) (some_is h)
each_join f (x ∷ xs) ys us vs h k =
    let c = each_cons f x xs us h in
    each_more f x (xs ++ ys) c.first (c.rest ++ vs) c.gives (each_join f xs ys c.rest vs c.more k) ∙ ap (λ ws. Some (ws ++ vs)) c.is

pub record Split {A B : Type 0} (f : A → Option B) (xs ys : List A) (ws : List B) : Type 0 where
  pub front : List B
  pub back : List B
  pub fronts : each_of f xs ≡ Some front
  pub backs : each_of f ys ≡ Some back
  pub is : front ++ back ≡ ws

pub each_split : {A B : Type 0} (f : A → Option B) (xs ys : List A) (ws : List B) → each_of f (xs ++ ys) ≡ Some ws → Split f xs ys ws
each_split f [] ys ws h = record { front = []; back = ws; fronts = refl; backs = h; is = refl }
each_split f (x ∷ xs) ys ws h =
    let c = each_cons f x (xs ++ ys) ws h in
    let s = each_split f xs ys c.rest c.more in
    record { front = c.first ∷ s.front; back = s.back; fronts = each_more f x xs c.first s.front c.gives s.fronts; backs = s.backs; is = ap (λ zs. c.first ∷ zs) s.is ∙ c.is }
