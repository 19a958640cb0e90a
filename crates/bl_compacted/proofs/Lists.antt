-- Elements of lists, and lists in another order.
use Rattle.std.proofs.Common.{◌≡◌, zero, suc, ◌<◌, Bool, true, false, cond, List, [], ◌∷◌, ◌++◌, length, refl, sym, ◌∙◌, ap, subst, arith, Option, Some, inl, inr}
use Rattle.std.specs.Prelude.{◌⊎◌, ◌||◌, not, map, filter, flat_map, Contains}
use Rattle.std.specs.List.{AllByRecursion, list_any}
use Rattle.bl_entry.specs.Items.{each_of}
use Rattle.bl_out.specs.Finding.{◌then◌}
use Rattle.bl_compacted.specs.Pairs.{Pairwise}
use Rattle.bl_compacted.proofs.Finding.{some_is, each_cons, Cons}
use Rattle.bl_compacted.specs.Shuffles.{Shuffled, none, keep, turn, join}

-- ---- one of the elements

abbrev pub In : {A : Type 0} → A → List A → Type 0
In x [] = ⊥
In x (y ∷ ys) = (y ≡ x) ⊎ In x ys

pub by_test : {C : Type 0} (b : Bool) → (b ≡ true → C) → (b ≡ false → C) → C
by_test true f g = f refl
by_test false f g = g refl

pub in_all : {A : Type 0} (P : A → Type 0) (x : A) (xs : List A) → AllByRecursion P xs → In x xs → P x
in_all P x [] h i = absurd i
in_all P x (y ∷ ys) h (inl e) = subst P e h.0
in_all P x (y ∷ ys) h (inr i) = in_all P x ys h.1 i

pub all_in : {A : Type 0} (P : A → Type 0) (xs : List A) → ((x : A) → In x xs → P x) → AllByRecursion P xs
all_in P [] f = tt
all_in P (x ∷ xs) f = (f x (inl refl), all_in P xs (λ y i. f y (inr i)))

pub in_append_left : {A : Type 0} (x : A) (xs ys : List A) → In x xs → In x (xs ++ ys)
in_append_left x [] ys i = absurd i
in_append_left x (y ∷ xs) ys (inl e) = inl e
in_append_left x (y ∷ xs) ys (inr i) = inr (in_append_left x xs ys i)

pub in_append_right : {A : Type 0} (x : A) (xs ys : List A) → In x ys → In x (xs ++ ys)
in_append_right x [] ys i = i
in_append_right x (y ∷ xs) ys i = inr (in_append_right x xs ys i)

pub in_append : {A : Type 0} (x : A) (xs ys : List A) → In x (xs ++ ys) → In x xs ⊎ In x ys
in_append x [] ys i = inr i
in_append x (y ∷ xs) ys (inl e) = inl (inl e)
in_append x (y ∷ xs) ys (inr i) = further (in_append x xs ys i)
  where
    further : In x xs ⊎ In x ys → In x (y ∷ xs) ⊎ In x ys
    further (inl j) = inl (inr j)
    further (inr j) = inr j

in_cond : {A : Type 0} (b : Bool) (x y : A) (ys zs : List A) → b ≡ true → In x (y ∷ ys) → In x (cond b (y ∷ ys) zs)
in_cond true x y ys zs e i = i
in_cond false x y ys zs e i = absurd cc

in_rest : {A : Type 0} (b : Bool) (x y : A) (ys : List A) → In x ys → In x (cond b (y ∷ ys) ys)
in_rest true x y ys i = inr i
in_rest false x y ys i = i

pub in_filter : {A : Type 0} (p : A → Bool) (x : A) (xs : List A) → In x xs → p x ≡ true → In x (filter p xs)
in_filter p x [] i e = absurd i
in_filter p x (y ∷ ys) (inl is) e = in_cond (p y) x y (filter p ys) (filter p ys) (ap p is ∙ e) (inl is)
in_filter p x (y ∷ ys) (inr i) e = in_rest (p y) x y (filter p ys) (in_filter p x ys i e)

pub in_filtered : {A : Type 0} (p : A → Bool) (x : A) (xs : List A) → In x (filter p xs) → In x xs × (p x ≡ true)
in_filtered p x [] i = absurd i
in_filtered {A = A} p x (y ∷ ys) i = by_head (λ j. in_filtered p x ys j) (p y) refl i
  where
    further : In x ys × (p x ≡ true) → In x (y ∷ ys) × (p x ≡ true)
    further h = (inr h.0, h.1)

    here : (In x (filter p ys) → In x ys × (p x ≡ true)) → p y ≡ true → In x (y ∷ filter p ys) → In x (y ∷ ys) × (p x ≡ true)
    here more t (inl e) = (inl e, sym (ap p e) ∙ t)
    here more t (inr j) = further (more j)

    by_head : (In x (filter p ys) → In x ys × (p x ≡ true)) → (b : Bool) → p y ≡ b → In x (cond b (y ∷ filter p ys) (filter p ys)) → In x (y ∷ ys) × (p x ≡ true)
    by_head more true t j = here more t j
    by_head more false t j = further (more j)

pub in_flat : {A B : Type 0} (f : A → List B) (t : A) (e : B) (ts : List A) → In t ts → In e (f t) → In e (flat_map f ts)
in_flat f t e [] i j = absurd i
in_flat f t e (u ∷ us) (inl is) j = in_append_left e (f u) (flat_map f us) (subst (λ v. In e (f v)) (sym is) j)
in_flat f t e (u ∷ us) (inr i) j = in_append_right e (f u) (flat_map f us) (in_flat f t e us i j)

pub of_flat : {A B : Type 0} (f : A → List B) (e : B) (ts : List A) → In e (flat_map f ts) → (t : A) × In t ts × In e (f t)
of_flat f e [] i = absurd i
of_flat {A = A} f e (u ∷ us) i = further (λ j. of_flat f e us j) (in_append e (f u) (flat_map f us) i)
  where
    more : (t : A) × In t us × In e (f t) → (t : A) × In t (u ∷ us) × In e (f t)
    more r = (r.0, inr r.1, r.2)

    further : (In e (flat_map f us) → (t : A) × In t us × In e (f t)) → In e (f u) ⊎ In e (flat_map f us) → (t : A) × In t (u ∷ us) × In e (f t)
    further rest (inl j) = (u, inl refl, j)
    further rest (inr j) = more (rest j)

pub in_map : {A B : Type 0} (f : A → B) (x : A) (xs : List A) → In x xs → In (f x) (map f xs)
in_map f x [] i = absurd i
in_map f x (y ∷ ys) (inl e) = inl (ap f e)
in_map f x (y ∷ ys) (inr i) = inr (in_map f x ys i)

pub of_map : {A B : Type 0} (f : A → B) (z : B) (xs : List A) → In z (map f xs) → (x : A) × In x xs × (f x ≡ z)
of_map f z [] i = absurd i
of_map f z (y ∷ ys) (inl e) = (y, inl refl, e)
of_map {A = A} f z (y ∷ ys) (inr i) = more (of_map f z ys i)
  where
    more : (x : A) × In x ys × (f x ≡ z) → (x : A) × In x (y ∷ ys) × (f x ≡ z)
    more r = (r.0, inr r.1, r.2)

pub from_contains : {A : Type 0} (x : A) (xs : List A) → Contains xs x → In x xs
from_contains x [] (k, less, is) = absurd (omega arith)
from_contains x (y ∷ ys) (zero, less, is) = inl is
from_contains x (y ∷ ys) (suc k, less, is) =
    let small : k < length ys = omega arith in
    inr (from_contains x ys (k, small, is))

pub to_contains : {A : Type 0} (x : A) (xs : List A) → In x xs → Contains xs x
to_contains x [] i = absurd i
to_contains x (y ∷ ys) (inl e) = (zero, omega arith, e)
to_contains x (y ∷ ys) (inr i) = further (to_contains x ys i)
  where
    further : Contains ys x → Contains (y ∷ ys) x
    further (k, less, is) = (suc k, omega arith, is)

pub any_in : {A : Type 0} (p : A → Bool) (xs : List A) → list_any p xs ≡ true → (x : A) × In x xs × (p x ≡ true)
any_in p [] e = absurd cc
any_in {A = A} p (y ∷ ys) e = by_head (λ h. any_in p ys h) (p y) refl e
  where
    more : (x : A) × In x ys × (p x ≡ true) → (x : A) × In x (y ∷ ys) × (p x ≡ true)
    more r = (r.0, inr r.1, r.2)

    by_head : (list_any p ys ≡ true → (x : A) × In x ys × (p x ≡ true)) → (b : Bool) → p y ≡ b → (b || list_any p ys) ≡ true → (x : A) × In x (y ∷ ys) × (p x ≡ true)
    by_head rest true t h = (y, inl refl, t)
    by_head rest false t h = more (rest h)

pub in_any : {A : Type 0} (p : A → Bool) (x : A) (xs : List A) → In x xs → p x ≡ true → list_any p xs ≡ true
in_any p x [] i e = absurd i
in_any p x (y ∷ ys) (inl is) e = ap (λ b. b || list_any p ys) (ap p is ∙ e)
in_any p x (y ∷ ys) (inr i) e = either (p y) (in_any p x ys i e)
  where
    either : (b : Bool) → list_any p ys ≡ true → (b || list_any p ys) ≡ true
    either true h = refl
    either false h = h

-- ---- pairs

pub all_append : {A : Type 0} (P : A → Type 0) (xs ys : List A) → AllByRecursion P xs → AllByRecursion P ys → AllByRecursion P (xs ++ ys)
all_append P [] ys h k = k
all_append P (x ∷ xs) ys h k = (h.0, all_append P xs ys h.1 k)

pub all_front : {A : Type 0} (P : A → Type 0) (xs ys : List A) → AllByRecursion P (xs ++ ys) → AllByRecursion P xs
all_front P [] ys h = tt
all_front P (x ∷ xs) ys h = (h.0, all_front P xs ys h.1)

pub all_back : {A : Type 0} (P : A → Type 0) (xs ys : List A) → AllByRecursion P (xs ++ ys) → AllByRecursion P ys
all_back P [] ys h = h
all_back P (x ∷ xs) ys h = all_back P xs ys h.1

pub pairs_join : {A : Type 0} (R : A → A → Type 0) (xs ys : List A) → Pairwise R xs → Pairwise R ys → AllByRecursion (λ x. AllByRecursion (R x) ys) xs → Pairwise R (xs ++ ys)
pairs_join R [] ys p q h = q
pairs_join R (x ∷ xs) ys p q h = (all_append (R x) xs ys p.0 h.0, pairs_join R xs ys p.1 q h.1)

pub pairs_front : {A : Type 0} (R : A → A → Type 0) (xs ys : List A) → Pairwise R (xs ++ ys) → Pairwise R xs
pairs_front R [] ys p = tt
pairs_front R (x ∷ xs) ys p = (all_front (R x) xs ys p.0, pairs_front R xs ys p.1)

pub pairs_back : {A : Type 0} (R : A → A → Type 0) (xs ys : List A) → Pairwise R (xs ++ ys) → Pairwise R ys
pairs_back R [] ys p = p
pairs_back R (x ∷ xs) ys p = pairs_back R xs ys p.1

pub pairs_across : {A : Type 0} (R : A → A → Type 0) (xs ys : List A) → Pairwise R (xs ++ ys) → AllByRecursion (λ x. AllByRecursion (R x) ys) xs
pairs_across R [] ys p = tt
pairs_across R (x ∷ xs) ys p = (all_back (R x) xs ys p.0, pairs_across R xs ys p.1)

all_filter : {A : Type 0} (P : A → Type 0) (p : A → Bool) (xs : List A) → AllByRecursion P xs → AllByRecursion P (filter p xs)
all_filter P p [] h = tt
all_filter P p (x ∷ xs) h = elim (p x) as (λ b. AllByRecursion P (cond b (x ∷ filter p xs) (filter p xs))) [ true ↦ (h.0, all_filter P p xs h.1) | false ↦ all_filter P p xs h.1 ]

pub pairs_filter : {A : Type 0} (R : A → A → Type 0) (p : A → Bool) (xs : List A) → Pairwise R xs → Pairwise R (filter p xs)
pairs_filter R p [] h = tt
pairs_filter R p (x ∷ xs) h = elim (p x) as (λ b. Pairwise R (cond b (x ∷ filter p xs) (filter p xs))) [ true ↦ (all_filter (R x) p xs h.0, pairs_filter R p xs h.1) | false ↦ pairs_filter R p xs h.1 ]

-- two of the elements are one, or so related
pub in_pairs : {A : Type 0} (R : A → A → Type 0) (x y : A) (xs : List A) → Pairwise R xs → In x xs → In y xs → (x ≡ y) ⊎ (R x y ⊎ R y x)
in_pairs R x y [] p i j = absurd i
in_pairs R x y (z ∷ zs) p (inl d) (inl e) = inl (sym d ∙ e)
in_pairs R x y (z ∷ zs) p (inl d) (inr j) = inr (inl (subst (λ w. R w y) d (in_all (R z) y zs p.0 j)))
in_pairs R x y (z ∷ zs) p (inr i) (inl e) = inr (inr (subst (λ w. R w x) e (in_all (R z) x zs p.0 i)))
in_pairs R x y (z ∷ zs) p (inr i) (inr j) = in_pairs R x y zs p.1 i j

-- ---- in another order

pub back : {A : Type 0} {xs ys : List A} → Shuffled xs ys → Shuffled ys xs
back none = none
back (keep s) = keep (back s)
back turn = turn
back (join s t) = join (back t) (back s)

pub same : {A : Type 0} (xs : List A) → Shuffled xs xs
same [] = none
same (x ∷ xs) = keep (same xs)

pub shuffled_all : {A : Type 0} (P : A → Type 0) {xs ys : List A} → Shuffled xs ys → AllByRecursion P xs → AllByRecursion P ys
shuffled_all P none h = h
shuffled_all P (keep s) h = (h.0, shuffled_all P s h.1)
shuffled_all P turn h = (h.1.0, (h.0, h.1.1))
shuffled_all P (join s t) h = shuffled_all P t (shuffled_all P s h)

pub shuffled_in : {A : Type 0} (x : A) {xs ys : List A} → Shuffled xs ys → In x xs → In x ys
shuffled_in x none i = i
shuffled_in x (keep s) (inl e) = inl e
shuffled_in x (keep s) (inr i) = inr (shuffled_in x s i)
shuffled_in x turn (inl e) = inr (inl e)
shuffled_in x turn (inr (inl e)) = inl e
shuffled_in x turn (inr (inr i)) = inr (inr i)
shuffled_in x (join s t) i = shuffled_in x t (shuffled_in x s i)

pub shuffled_pairs : {A : Type 0} (R : A → A → Type 0) → ((x y : A) → R x y → R y x) → {xs ys : List A} → Shuffled xs ys → Pairwise R xs → Pairwise R ys
shuffled_pairs R flip none p = p
shuffled_pairs R flip (keep {x = x} s) p = (shuffled_all (R x) s p.0, shuffled_pairs R flip s p.1)
shuffled_pairs R flip (turn {x = x} {y = y}) p = ((flip x y p.0.0, p.1.0), (p.0.1, p.1.1))
shuffled_pairs R flip (join s t) p = shuffled_pairs R flip t (shuffled_pairs R flip s p)

pub join_right : {A : Type 0} (zs : List A) {xs ys : List A} → Shuffled xs ys → Shuffled (zs ++ xs) (zs ++ ys)
join_right [] s = s
join_right (z ∷ zs) s = keep (join_right zs s)

pub join_left : {A : Type 0} (zs : List A) {xs ys : List A} → Shuffled xs ys → Shuffled (xs ++ zs) (ys ++ zs)
join_left zs none = same zs
join_left zs (keep s) = keep (join_left zs s)
join_left zs turn = turn
join_left zs (join s t) = join (join_left zs s) (join_left zs t)

pub middle : {A : Type 0} (x : A) (xs ys : List A) → Shuffled (x ∷ (xs ++ ys)) (xs ++ x ∷ ys)
middle x [] ys = same (x ∷ ys)
middle x (y ∷ xs) ys = join turn (keep (middle x xs ys))

-- what passes a test, and what does not
pub parted : {A : Type 0} (p : A → Bool) (xs : List A) → Shuffled xs (filter p xs ++ filter (λ x. not (p x)) xs)
parted p [] = none
parted p (x ∷ xs) =
    elim (p x) as (λ b. Shuffled (x ∷ xs) (cond b (x ∷ filter p xs) (filter p xs) ++ cond (not b) (x ∷ filter (λ y. not (p y)) xs) (filter (λ y. not (p y)) xs))) [
      | true ↦ keep (parted p xs)
      | false ↦ join (keep (parted p xs)) (middle x (filter p xs) (filter (λ y. not (p y)) xs))
    ]

flat_append : {A B : Type 0} (f : A → List B) (xs ys : List A) → flat_map f (xs ++ ys) ≡ flat_map f xs ++ flat_map f ys
flat_append f [] ys = refl
flat_append f (x ∷ xs) ys = ap (λ zs. f x ++ zs) (flat_append f xs ys) ∙ sym (assoc (f x) (flat_map f xs) (flat_map f ys))
  where
    assoc : {B : Type 0} (us vs ws : List B) → (us ++ vs) ++ ws ≡ us ++ (vs ++ ws)
    assoc [] vs ws = refl
    assoc (u ∷ us) vs ws = ap (λ zs. u ∷ zs) (assoc us vs ws)

pub flat_join : {A B : Type 0} (f : A → List B) (xs ys : List A) → flat_map f (xs ++ ys) ≡ flat_map f xs ++ flat_map f ys
flat_join f xs ys = flat_append f xs ys

swapped : {A : Type 0} (us vs ws : List A) → Shuffled (us ++ (vs ++ ws)) (vs ++ (us ++ ws))
swapped [] vs ws = same (vs ++ ws)
swapped (u ∷ us) vs ws = join (keep (swapped us vs ws)) (middle u vs (us ++ ws))

pub shuffled_flat : {A B : Type 0} (f : A → List B) {xs ys : List A} → Shuffled xs ys → Shuffled (flat_map f xs) (flat_map f ys)
shuffled_flat f none = none
shuffled_flat f (keep {x = x} s) = join_right (f x) (shuffled_flat f s)
shuffled_flat f (turn {x = x} {y = y} {xs = xs}) = swapped (f x) (f y) (flat_map f xs)
shuffled_flat f (join s t) = join (shuffled_flat f s) (shuffled_flat f t)

-- ---- what is given of each

pub each_in : {A B : Type 0} (f : A → Option B) (x : A) (xs : List A) (ys : List B) → each_of f xs ≡ Some ys → In x xs → (y : B) × In y ys × (f x ≡ Some y)
each_in f x [] ys e i = absurd i
each_in {A = A} {B = B} f x (z ∷ zs) ys e i = let c = each_cons f z zs ys e in by_place c (λ j. each_in f x zs c.rest c.more j) i
  where
    more : (c : Cons f z zs ys) → (y : B) × In y c.rest × (f x ≡ Some y) → (y : B) × In y ys × (f x ≡ Some y)
    more c r = (r.0, subst (In r.0) c.is (inr r.1), r.2)

    by_place : (c : Cons f z zs ys) → (In x zs → (y : B) × In y c.rest × (f x ≡ Some y)) → (z ≡ x) ⊎ In x zs → (y : B) × In y ys × (f x ≡ Some y)
    by_place c rest (inl is) = (c.first, subst (In c.first) c.is (inl refl), sym (ap f is) ∙ c.gives)
    by_place c rest (inr j) = more c (rest j)

pub of_each : {A B : Type 0} (f : A → Option B) (y : B) (xs : List A) (ys : List B) → each_of f xs ≡ Some ys → In y ys → (x : A) × In x xs × (f x ≡ Some y)
of_each f y [] ys e i = absurd (subst (In y) (sym (some_is e)) i)
of_each {A = A} {B = B} f y (z ∷ zs) ys e i = let c = each_cons f z zs ys e in by_place c (λ j. of_each f y zs c.rest c.more j) (subst (In y) (sym c.is) i)
  where
    more : (x : A) × In x zs × (f x ≡ Some y) → (x : A) × In x (z ∷ zs) × (f x ≡ Some y)
    more r = (r.0, inr r.1, r.2)

    by_place : (c : Cons f z zs ys) → (In y c.rest → (x : A) × In x zs × (f x ≡ Some y)) → (c.first ≡ y) ⊎ In y c.rest → (x : A) × In x (z ∷ zs) × (f x ≡ Some y)
    by_place c rest (inl is) = (z, inl refl, c.gives ∙ ap Some is)
    by_place c rest (inr j) = more (rest j)

-- where each element gives something, so do all
pub each_gives : {A B : Type 0} (f : A → Option B) (xs : List A) → AllByRecursion (λ x. (y : B) × (f x ≡ Some y)) xs → (ys : List B) × (each_of f xs ≡ Some ys)
each_gives f [] h = ([], refl)
each_gives {B = B} f (x ∷ xs) h =
    let rest : (ys : List B) × (each_of f xs ≡ Some ys) = each_gives f xs h.1 in
    (h.0.0 ∷ rest.0, λ i. h.0.1 i then λ y. rest.1 i then λ ys. Some (y ∷ ys))

-- a relation of what is given is one of what it was given of
pub each_pairs : {A B : Type 0} (f : A → Option B) (R : B → B → Type 0) (xs : List A) (ys : List B) → each_of f xs ≡ Some ys → Pairwise R ys
    → Pairwise (λ a b. (y z : B) → f a ≡ Some y → f b ≡ Some z → R y z) xs
each_pairs f R [] ys e p = tt
each_pairs {A = A} {B = B} f R (x ∷ xs) ys e p =
    let c = each_cons f x xs ys e in
    let q : Pairwise R (c.first ∷ c.rest) = subst (Pairwise R) (sym c.is) p in
    (heads c.first c.gives xs c.rest c.more q.0, each_pairs f R xs c.rest c.more q.1)
  where
    heads : (y : B) → f x ≡ Some y → (us : List A) (vs : List B) → each_of f us ≡ Some vs → AllByRecursion (R y) vs → AllByRecursion (λ b. (v z : B) → f x ≡ Some v → f b ≡ Some z → R v z) us
    heads y g [] vs d h = tt
    heads y g (u ∷ us) vs d h =
        let c = each_cons f u us vs d in
        let k : AllByRecursion (R y) (c.first ∷ c.rest) = subst (AllByRecursion (R y)) (sym c.is) h in
        ((λ v z a b. subst (λ w. R w z) (some_is (sym g ∙ a)) (subst (R y) (some_is (sym c.gives ∙ b)) k.0)), heads y g us c.rest c.more k.1)

pub pairs_each : {A B : Type 0} (f : A → Option B) (R : B → B → Type 0) (xs : List A) (ys : List B) → each_of f xs ≡ Some ys
    → Pairwise (λ a b. (y z : B) → f a ≡ Some y → f b ≡ Some z → R y z) xs → Pairwise R ys
pairs_each f R [] ys e p = subst (Pairwise R) (some_is e) tt
pairs_each {A = A} {B = B} f R (x ∷ xs) ys e p =
    let c = each_cons f x xs ys e in
    subst (Pairwise R) c.is (heads c.first c.gives xs c.rest c.more p.0, pairs_each f R xs c.rest c.more p.1)
  where
    heads : (y : B) → f x ≡ Some y → (us : List A) (vs : List B) → each_of f us ≡ Some vs → AllByRecursion (λ b. (v z : B) → f x ≡ Some v → f b ≡ Some z → R v z) us → AllByRecursion (R y) vs
    heads y g [] vs d h = subst (AllByRecursion (R y)) (some_is d) tt
    heads y g (u ∷ us) vs d h =
        let c = each_cons f u us vs d in
        subst (AllByRecursion (R y)) c.is (h.0 y c.first g c.gives, heads y g us c.rest c.more h.1)
