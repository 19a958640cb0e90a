-- Hulls.
use Rattle.std.proofs.Common.{◌≡◌, Bool, true, false, List, [], ◌∷◌, ◌++◌, ℕ, Option, Some, None, refl, sym, ◌∙◌, ap, subst}
use Rattle.std.specs.Prelude.{◌&&◌, ◌||◌}
use Rattle.std.specs.List.{list_any}
use Rattle.std.specs.Cmp.Lexicographic.{nat_list_cmp_total}
use Rattle.std.specs.Ordering.{is_le, ordering_reverse}
use Rattle.std.specs.declared.cmp.Ordering.{Ordering}
use Rattle.std.specs.declared.cmp.Ordering.TheVariants.{Less, Equal, Greater}
use Rattle.std.proofs.lemmas.Bool.{false≢true, true≢false}
use Rattle.bl_code.specs.Order.{bytes_cmp, bytes_le}
use Rattle.bl_edit.specs.declared.edit.NewTable.{NewTable}
use Rattle.bl_build.specs.Versions.{first_user, last_user}
use Rattle.bl_pick.specs.Hulls.{IsHull, begins_by, ends_from}
use Rattle.bl_pick.specs.Picking.{hull_overlaps}

-- at most goes on from one to the next
le_trans : (a b c : List ℕ) → bytes_le a b ≡ true → bytes_le b c ≡ true → bytes_le a c ≡ true
le_trans a b c p q = both (bytes_cmp a b) (bytes_cmp b c) refl refl p q
  where
    both : (o r : Ordering) → bytes_cmp a b ≡ o → bytes_cmp b c ≡ r → is_le o ≡ true → is_le r ≡ true → is_le (bytes_cmp a c) ≡ true
    both Less Less e f h k = ap is_le (nat_list_cmp_total.trans a b c e f)
    both Less Equal e f h k =
        let turned : bytes_cmp c a ≡ Greater = sym (nat_list_cmp_total.congr b c a f) ∙ nat_list_cmp_total.antisymm b a ∙ ap ordering_reverse e in
        ap is_le (nat_list_cmp_total.antisymm a c ∙ ap ordering_reverse turned)
    both Less Greater e f h k = absurd (false≢true k)
    both Equal r e f h k = ap is_le (nat_list_cmp_total.congr a b c e) ∙ ap is_le f ∙ k
    both Greater r e f h k = absurd (false≢true h)

not_le : (a b : List ℕ) → bytes_le a b ≡ false → bytes_le b a ≡ true
not_le a b h = by (bytes_cmp a b) refl h
  where
    by : (o : Ordering) → bytes_cmp a b ≡ o → is_le o ≡ false → is_le (bytes_cmp b a) ≡ true
    by Less e k = absurd (true≢false k)
    by Equal e k = absurd (true≢false k)
    by Greater e k = ap is_le (nat_list_cmp_total.antisymm b a ∙ ap ordering_reverse e)

or_yes : (a b : Bool) → (b ≡ true → a ≡ true) → a ≡ (a || b)
or_yes true b h = refl
or_yes false true h = h refl
or_yes false false h = refl

or_other : (a b : Bool) → (a ≡ true → b ≡ true) → b ≡ (a || b)
or_other true b h = h refl
or_other false b h = refl

-- the table before stays first
pub stays_first : (a b : List ℕ) → bytes_le a b ≡ true → (key : List ℕ) → bytes_le a key ≡ (bytes_le a key || bytes_le b key)
stays_first a b h key = or_yes (bytes_le a key) (bytes_le b key) (le_trans a b key h)

pub comes_first : (a b : List ℕ) → bytes_le a b ≡ false → (key : List ℕ) → bytes_le b key ≡ (bytes_le a key || bytes_le b key)
comes_first a b h key = or_other (bytes_le a key) (bytes_le b key) (le_trans b a key (not_le a b h))

pub stays_last : (a b : List ℕ) → bytes_le b a ≡ true → (key : List ℕ) → bytes_le key a ≡ (bytes_le key a || bytes_le key b)
stays_last a b h key = or_yes (bytes_le key a) (bytes_le key b) (λ k. le_trans key b a k h)

pub comes_last : (a b : List ℕ) → bytes_le b a ≡ false → (key : List ℕ) → bytes_le key b ≡ (bytes_le key a || bytes_le key b)
comes_last a b h key = or_other (bytes_le key a) (bytes_le key b) (λ k. le_trans key a b k (not_le b a h))

any_end : {A : Type 0} (p : A → Bool) (xs : List A) (x : A) → list_any p (xs ++ x ∷ []) ≡ (list_any p xs || p x)
any_end p [] x = one (p x)
  where
    one : (b : Bool) → (b || false) ≡ b
    one true = refl
    one false = refl
any_end p (y ∷ xs) x = ap (λ b. p y || b) (any_end p xs x) ∙ joined (p y) (list_any p xs) (p x)
  where
    joined : (a b d : Bool) → (a || (b || d)) ≡ ((a || b) || d)
    joined true b d = refl
    joined false b d = refl

pub hull_more : (first last next_first next_last : Option NewTable) (ts : List NewTable) (t : NewTable)
    → ((key : List ℕ) → begins_by next_first key ≡ (begins_by first key || bytes_le (first_user t) key)) → ((key : List ℕ) → ends_from next_last key ≡ (ends_from last key || bytes_le key (last_user t)))
    → IsHull first last ts → IsHull next_first next_last (ts ++ t ∷ [])
hull_more first last next_first next_last ts t begins ends h = record {
  begins = λ key. begins key ∙ ap (λ b. b || bytes_le (first_user t) key) (h.begins key) ∙ sym (any_end (λ (u : NewTable). bytes_le (first_user u) key) ts t);
  ends = λ key. ends key ∙ ap (λ b. b || bytes_le key (last_user t)) (h.ends key) ∙ sym (any_end (λ (u : NewTable). bytes_le key (last_user u)) ts t);
}

pub meets_is : (first last : Option NewTable) (ts : List NewTable) (u : NewTable) → IsHull first last ts → (begins_by first (last_user u) && ends_from last (first_user u)) ≡ hull_overlaps ts u
meets_is first last ts u h = λ i. h.begins (last_user u) i && h.ends (first_user u) i

-- ---- of the tables that are held

pub begins_none : (best : Option NewTable) (t : NewTable) → best ≡ None → (key : List ℕ) → bytes_le (first_user t) key ≡ (begins_by best key || bytes_le (first_user t) key)
begins_none best t is key = ap (λ o. begins_by o key || bytes_le (first_user t) key) (sym is)

pub begins_stays : (best : Option NewTable) (a t : NewTable) → best ≡ Some a → bytes_le (first_user a) (first_user t) ≡ true → (key : List ℕ) → begins_by best key ≡ (begins_by best key || bytes_le (first_user t) key)
begins_stays best a t is le key = subst (λ o. begins_by o key ≡ (begins_by o key || bytes_le (first_user t) key)) (sym is) (stays_first (first_user a) (first_user t) le key)

pub begins_comes : (best : Option NewTable) (a t : NewTable) → best ≡ Some a → bytes_le (first_user a) (first_user t) ≡ false → (key : List ℕ) → bytes_le (first_user t) key ≡ (begins_by best key || bytes_le (first_user t) key)
begins_comes best a t is le key = subst (λ o. bytes_le (first_user t) key ≡ (begins_by o key || bytes_le (first_user t) key)) (sym is) (comes_first (first_user a) (first_user t) le key)

pub ends_none : (best : Option NewTable) (t : NewTable) → best ≡ None → (key : List ℕ) → bytes_le key (last_user t) ≡ (ends_from best key || bytes_le key (last_user t))
ends_none best t is key = ap (λ o. ends_from o key || bytes_le key (last_user t)) (sym is)

pub ends_stays : (best : Option NewTable) (a t : NewTable) → best ≡ Some a → bytes_le (last_user t) (last_user a) ≡ true → (key : List ℕ) → ends_from best key ≡ (ends_from best key || bytes_le key (last_user t))
ends_stays best a t is le key = subst (λ o. ends_from o key ≡ (ends_from o key || bytes_le key (last_user t))) (sym is) (stays_last (last_user a) (last_user t) le key)

pub ends_comes : (best : Option NewTable) (a t : NewTable) → best ≡ Some a → bytes_le (last_user t) (last_user a) ≡ false → (key : List ℕ) → bytes_le key (last_user t) ≡ (ends_from best key || bytes_le key (last_user t))
ends_comes best a t is le key = subst (λ o. bytes_le key (last_user t) ≡ (ends_from o key || bytes_le key (last_user t))) (sym is) (comes_last (last_user a) (last_user t) le key)

pub meets_none : (first last : Option NewTable) (ts : List NewTable) (u : NewTable) → first ≡ None → IsHull first last ts → false ≡ hull_overlaps ts u
meets_none first last ts u is h = ap (λ o. begins_by o (last_user u) && ends_from last (first_user u)) (sym is) ∙ meets_is first last ts u h

pub meets_no_end : (first last : Option NewTable) (ts : List NewTable) (u : NewTable) → last ≡ None → IsHull first last ts → false ≡ hull_overlaps ts u
meets_no_end first last ts u is h =
    sym (no_end (begins_by first (last_user u))) ∙ ap (λ o. begins_by first (last_user u) && ends_from o (first_user u)) (sym is) ∙ meets_is first last ts u h
  where
    no_end : (b : Bool) → (b && false) ≡ false
    no_end true = refl
    no_end false = refl

pub meets_both : (first last : Option NewTable) (a b : NewTable) (ts : List NewTable) (u : NewTable) → first ≡ Some a → last ≡ Some b → IsHull first last ts
    → (bytes_le (first_user a) (last_user u) && bytes_le (first_user u) (last_user b)) ≡ hull_overlaps ts u
meets_both first last a b ts u is own h =
    ap (λ o. begins_by o (last_user u) && bytes_le (first_user u) (last_user b)) (sym is) ∙ ap (λ o. begins_by first (last_user u) && ends_from o (first_user u)) (sym own) ∙ meets_is first last ts u h
