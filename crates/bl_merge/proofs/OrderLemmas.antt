-- Entries in key order.
use Rattle.std.proofs.Common.{◌≡◌, ℕ, zero, suc, ◌+◌, Bool, true, false, cond, List, [], ◌∷◌, ◌++◌, map, drop, refl, sym, ◌∙◌, ap, subst, arith, inl, inr}
use Rattle.std.specs.Prelude.{◌⊎◌, filter, flat_map, not}
use Rattle.std.specs.List.{AllByRecursion}
use Rattle.std.specs.List.Sorted.{IsStrictlySortedBy}
use Rattle.std.specs.Ordering.{is_lt, ordering_reverse}
use Rattle.std.specs.declared.cmp.Ordering.{Ordering}
use Rattle.std.specs.declared.cmp.Ordering.TheVariants.{Less, Equal, Greater}
use Rattle.std.proofs.lemmas.Bool.{false≢true}
use Rattle.std.proofs.lemmas.List.Elements.{filter-append}
use Rattle.bl_entry.specs.declared.key.Entry.{Entry}
use Rattle.bl_entry.specs.Entries.{AreInOrder, IsAscending, first_at, stands_before}
use Rattle.bl_entry.specs.Keys.{Key, key_cmp}
use Rattle.bl_merge.specs.Lists.{from_on, in_order, merged, put_in}
use Rattle.bl_merge.specs.Order.{key_total}
use Rattle.bl_merge.proofs.HandLemmas.{by_test}

pub all_from : {A : Type 0} (P Q : A → Type 0) (xs : List A) → ((x : A) → P x → Q x) → AllByRecursion P xs → AllByRecursion Q xs
all_from P Q [] f h = tt
all_from P Q (x ∷ xs) f h = (f x h.0, all_from P Q xs f h.1)

pub all_append : {A : Type 0} (P : A → Type 0) (xs ys : List A) → AllByRecursion P xs → AllByRecursion P ys → AllByRecursion P (xs ++ ys)
all_append P [] ys h k = k
all_append P (x ∷ xs) ys h k = (h.0, all_append P xs ys h.1 k)

-- ---- the order of two keys

flipped : (a b : Key) → is_lt (key_cmp a b) ≡ true → is_lt (key_cmp b a) ≡ false
flipped a b h = ap is_lt (key_total.antisymm b a) ∙ by (key_cmp a b) h
  where
    by : (o : Ordering) → is_lt o ≡ true → is_lt (ordering_reverse o) ≡ false
    by Less e = refl
    by Equal e = absurd (false≢true e)
    by Greater e = absurd (false≢true e)

pub not_less : (a b : Key) → is_lt (key_cmp b a) ≡ false → (key_cmp a b ≡ Less) ⊎ (key_cmp a b ≡ Equal)
not_less a b h = by (key_cmp a b) refl (sym (ap is_lt (key_total.antisymm b a)) ∙ h)
  where
    by : (o : Ordering) → key_cmp a b ≡ o → is_lt (ordering_reverse o) ≡ false → (key_cmp a b ≡ Less) ⊎ (key_cmp a b ≡ Equal)
    by Less e k = inl e
    by Equal e k = inr e
    by Greater e k = absurd (false≢true (sym k))

of_less : (a b : Key) → (key_cmp a b ≡ Less) ⊎ (key_cmp a b ≡ Equal) → is_lt (key_cmp b a) ≡ false
of_less a b (inl e) = ap is_lt (key_total.antisymm b a ∙ ap ordering_reverse e)
of_less a b (inr e) = ap is_lt (key_total.antisymm b a ∙ ap ordering_reverse e)

less_of : (a b : Key) → is_lt (key_cmp a b) ≡ true → key_cmp a b ≡ Less
less_of a b h = by (key_cmp a b) h
  where
    by : (o : Ordering) → is_lt o ≡ true → o ≡ Less
    by Less e = refl
    by Equal e = absurd (false≢true e)
    by Greater e = absurd (false≢true e)

-- b does not stand before a, and c not before b
pub behind_trans : (a b c : Key) → is_lt (key_cmp b a) ≡ false → is_lt (key_cmp c b) ≡ false → is_lt (key_cmp c a) ≡ false
behind_trans a b c p q = of_less a c (both (not_less a b p) (not_less b c q))
  where
    both : (key_cmp a b ≡ Less) ⊎ (key_cmp a b ≡ Equal) → (key_cmp b c ≡ Less) ⊎ (key_cmp b c ≡ Equal) → (key_cmp a c ≡ Less) ⊎ (key_cmp a c ≡ Equal)
    both (inl x) (inl y) = inl (key_total.trans a b c x y)
    both (inl x) (inr y) = inl (key_total.antisymm a c ∙ ap ordering_reverse (sym (key_total.congr b c a y)) ∙ sym (key_total.antisymm a b) ∙ x)
    both (inr x) (inl y) = inl (key_total.congr a b c x ∙ y)
    both (inr x) (inr y) = inr (key_total.congr a b c x ∙ y)

-- ---- ascending lists

abbrev pub AreBehind : Key → List Entry → Type 0
AreBehind k es = AllByRecursion (λ x. key_cmp k x ≡ Less) (map (λ e. e.key) es)

pub tail_ascends : (x : Entry) (xs : List Entry) → IsAscending (x ∷ xs) → IsAscending xs
unfolding IsStrictlySortedBy
tail_ascends x xs h = h.1

pub none_ascend : IsAscending []
unfolding IsStrictlySortedBy
none_ascend = tt

heads_of : (x : Entry) (xs : List Entry) → IsAscending (x ∷ xs) → AreBehind x.key xs
unfolding IsStrictlySortedBy
heads_of x xs h = h.0

-- what comes behind one that does not stand before another does not either
pub all_not_before : (e x : Entry) (ys : List Entry) → IsAscending (x ∷ ys) → stands_before x e ≡ false → AllByRecursion (λ y. stands_before y e ≡ false) (x ∷ ys)
all_not_before e x ys up h = (h, each ys (heads_of x ys up))
  where
    each : (zs : List Entry) → AreBehind x.key zs → AllByRecursion (λ y. stands_before y e ≡ false) zs
    each [] b = tt
    each (z ∷ zs) b = (behind_trans e.key x.key z.key h (of_less x.key z.key (inl b.0)), each zs b.1)

pub all_strictly : (e x : Entry) (ys : List Entry) → IsAscending (x ∷ ys) → stands_before e x ≡ true → AllByRecursion (λ y. stands_before e y ≡ true) (x ∷ ys)
all_strictly e x ys up h = (h, each ys (heads_of x ys up))
  where
    each : (zs : List Entry) → AreBehind x.key zs → AllByRecursion (λ y. stands_before e y ≡ true) zs
    each [] b = tt
    each (z ∷ zs) b = (ap is_lt (key_total.trans e.key x.key z.key (less_of e.key x.key h) b.0), each zs b.1)

pub tail_behind : (e : Entry) (ys : List Entry) → IsAscending (e ∷ ys) → AllByRecursion (λ y. stands_before y e ≡ false) ys
tail_behind e ys up = each ys (heads_of e ys up)
  where
    each : (zs : List Entry) → AreBehind e.key zs → AllByRecursion (λ y. stands_before y e ≡ false) zs
    each [] b = tt
    each (z ∷ zs) b = (of_less e.key z.key (inl b.0), each zs b.1)

pub drop_ascends : (n : ℕ) (es : List Entry) → IsAscending es → IsAscending (drop n es)
drop_ascends zero es h = h
drop_ascends (suc n) [] h = h
drop_ascends (suc n) (x ∷ es) h = drop_ascends n es (tail_ascends x es h)

-- behind those that stand before a key all are at it or behind it
from_behind : (from : Key) (es : List Entry) → AllByRecursion (λ e. is_lt (key_cmp e.key from) ≡ false) es → from_on from es ≡ es
from_behind from [] h = refl
from_behind from (x ∷ es) h = ap (λ b. cond (not b) (x ∷ from_on from es) (from_on from es)) h.0 ∙ ap (λ ys. x ∷ ys) (from_behind from es h.1)

pub from_is_drop : (from : Key) (es : List Entry) → IsAscending es → drop (first_at from es) es ≡ from_on from es
from_is_drop from [] up = refl
from_is_drop from (x ∷ es) up =
    by_test (is_lt (key_cmp x.key from))
    (λ t.
    let one : 1 + first_at from es ≡ suc (first_at from es) = omega arith in
    ap (λ b. drop (cond b (1 + first_at from es) 0) (x ∷ es)) t ∙ ap (λ n. drop n (x ∷ es)) one ∙ from_is_drop from es (tail_ascends x es up)
    ∙ sym (ap (λ b. cond (not b) (x ∷ from_on from es) (from_on from es)) t))
    (λ t.
    ap (λ b. drop (cond b (1 + first_at from es) 0) (x ∷ es)) t
    ∙ sym (from_behind from (x ∷ es) (t, each x es t (heads_of x es up))))
  where
    each : (y : Entry) (zs : List Entry) → is_lt (key_cmp y.key from) ≡ false → AreBehind y.key zs → AllByRecursion (λ z. is_lt (key_cmp z.key from) ≡ false) zs
    each y [] t b = tt
    each y (z ∷ zs) t b = (behind_trans from y.key z.key t (of_less y.key z.key (inl b.0)), each y zs t b.1)

-- ---- lists in order

pub all_put : (P : Entry → Type 0) (x : Entry) (ys : List Entry) → P x → AllByRecursion P ys → AllByRecursion P (put_in x ys)
all_put P x [] p h = (p, tt)
all_put P x (y ∷ ys) p h =
    elim (stands_before y x) as (λ b. AllByRecursion P (cond b (y ∷ put_in x ys) (x ∷ y ∷ ys))) [
      | true ↦ (h.0, all_put P x ys p h.1)
      | false ↦ (p, h)
    ]

pub all_in_order : (P : Entry → Type 0) (xs : List Entry) → AllByRecursion P xs → AllByRecursion P (in_order xs)
all_in_order P [] h = tt
all_in_order P (x ∷ xs) h = all_put P x (in_order xs) h.0 (all_in_order P xs h.1)

put_ordered : (x : Entry) (ys : List Entry) → AreInOrder ys → AreInOrder (put_in x ys)
put_ordered x [] p = (tt, tt)
put_ordered x (y ∷ ys) p =
    by_test (stands_before y x)
    (λ t. subst AreInOrder (sym (ap (λ b. cond b (y ∷ put_in x ys) (x ∷ y ∷ ys)) t)) (all_put (λ z. stands_before z y ≡ false) x ys (flipped y.key x.key t) p.0, put_ordered x ys p.1))
    (λ t.
    subst AreInOrder (sym (ap (λ b. cond b (y ∷ put_in x ys) (x ∷ y ∷ ys)) t))
    ((t, all_from (λ z. stands_before z y ≡ false) (λ z. stands_before z x ≡ false) ys (λ z h. behind_trans x.key y.key z.key t h) p.0), p))

pub ordered : (xs : List Entry) → AreInOrder (in_order xs)
ordered [] = tt
ordered (x ∷ xs) = put_ordered x (in_order xs) (ordered xs)

put_front : (x : Entry) (zs : List Entry) → AllByRecursion (λ y. stands_before y x ≡ false) zs → put_in x zs ≡ x ∷ zs
put_front x [] h = refl
put_front x (z ∷ zs) h = ap (λ b. cond b (z ∷ put_in x zs) (x ∷ z ∷ zs)) h.0

-- the first of a list before which none stands comes first
pub first_comes : (x : Entry) (ys : List Entry) → AllByRecursion (λ y. stands_before y x ≡ false) ys → in_order (x ∷ ys) ≡ x ∷ in_order ys
first_comes x ys h = put_front x (in_order ys) (all_in_order (λ y. stands_before y x ≡ false) ys h)

-- and so it does behind entries that it stands before
pub comes_before : (e : Entry) (xs es more : List Entry) → AllByRecursion (λ x. stands_before e x ≡ true) xs → in_order es ≡ e ∷ in_order more → in_order (xs ++ es) ≡ e ∷ in_order (xs ++ more)
comes_before e [] es more h is = is
comes_before e (x ∷ xs) es more h is =
    ap (put_in x) (comes_before e xs es more h.1 is)
    ∙ ap (λ b. cond b (e ∷ put_in x (in_order (xs ++ more))) (x ∷ e ∷ in_order (xs ++ more))) h.0

-- ---- what passes a test, in order

filtered_put : (p : Entry → Bool) (x : Entry) (ys : List Entry) → AreInOrder ys → filter p (put_in x ys) ≡ cond (p x) (put_in x (filter p ys)) (filter p ys)
filtered_put p x [] o = refl
filtered_put p x (y ∷ ys) o =
    by_test (stands_before y x)
    (λ t.
    ap (λ b. filter p (cond b (y ∷ put_in x ys) (x ∷ y ∷ ys))) t
    ∙ by_test (p y)
    (λ py.
    ap (λ b. cond b (y ∷ filter p (put_in x ys)) (filter p (put_in x ys))) py ∙ ap (λ zs. y ∷ zs) (filtered_put p x ys o.1) ∙ skips t (p x)
    ∙ sym (ap (λ b. cond (p x) (put_in x (cond b (y ∷ filter p ys) (filter p ys))) (cond b (y ∷ filter p ys) (filter p ys))) py))
    (λ py.
    ap (λ b. cond b (y ∷ filter p (put_in x ys)) (filter p (put_in x ys))) py ∙ filtered_put p x ys o.1
    ∙ sym (ap (λ b. cond (p x) (put_in x (cond b (y ∷ filter p ys) (filter p ys))) (cond b (y ∷ filter p ys) (filter p ys))) py)))
    (λ t.
    let behind : AllByRecursion (λ z. stands_before z x ≡ false) (y ∷ ys) = (t, all_from (λ z. stands_before z y ≡ false) (λ z. stands_before z x ≡ false) ys (λ z h. behind_trans x.key y.key z.key t h) o.0) in
    ap (λ b. filter p (cond b (y ∷ put_in x ys) (x ∷ y ∷ ys))) t
    ∙ ap (λ zs. cond (p x) zs (filter p (y ∷ ys))) (sym (put_front x (filter p (y ∷ ys)) (all_filter (λ z. stands_before z x ≡ false) (y ∷ ys) behind))))
  where
    skips : stands_before y x ≡ true → (b : Bool) → y ∷ cond b (put_in x (filter p ys)) (filter p ys) ≡ cond b (put_in x (y ∷ filter p ys)) (y ∷ filter p ys)
    skips t true = sym (ap (λ b. cond b (y ∷ put_in x (filter p ys)) (x ∷ y ∷ filter p ys)) t)
    skips t false = refl

    all_filter : (P : Entry → Type 0) (zs : List Entry) → AllByRecursion P zs → AllByRecursion P (filter p zs)
    all_filter P [] h = tt
    all_filter P (z ∷ zs) h = elim (p z) as (λ b. AllByRecursion P (cond b (z ∷ filter p zs) (filter p zs))) [ true ↦ (h.0, all_filter P zs h.1) | false ↦ all_filter P zs h.1 ]

pub filtered_in_order : (p : Entry → Bool) (xs : List Entry) → in_order (filter p xs) ≡ filter p (in_order xs)
filtered_in_order p [] = refl
filtered_in_order p (x ∷ xs) =
    by (p x) (filtered_in_order p xs) ∙ sym (filtered_put p x (in_order xs) (ordered xs))
  where
    by : (b : Bool) → in_order (filter p xs) ≡ filter p (in_order xs) → in_order (cond b (x ∷ filter p xs) (filter p xs)) ≡ cond b (put_in x (filter p (in_order xs))) (filter p (in_order xs))
    by true e = ap (put_in x) e
    by false e = e

flat_filtered : (p : Entry → Bool) (lists : List (List Entry)) → flat_map (λ es. es) (map (filter p) lists) ≡ filter p (flat_map (λ es. es) lists)
flat_filtered p [] = refl
flat_filtered p (es ∷ lists) = ap (λ ys. filter p es ++ ys) (flat_filtered p lists) ∙ sym (filter-append p es (flat_map (λ xs. xs) lists))

pub merged_from : (from : Key) (lists : List (List Entry)) → merged (map (from_on from) lists) ≡ from_on from (merged lists)
merged_from from lists =
    ap in_order (flat_filtered (λ e. not (is_lt (key_cmp e.key from))) lists) ∙ filtered_in_order (λ e. not (is_lt (key_cmp e.key from))) (flat_map (λ es. es) lists)
