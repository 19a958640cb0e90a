-- The order of keys, and lists in it.
use Rattle.std.proofs.Common.{◌≡◌, ℕ, ◌<◌, ◌≤◌, Bool, true, false, cond, nat_lt, List, [], ◌∷◌, map, refl, sym, ◌∙◌, ap, arith, rules}
use Rattle.std.specs.Prelude.{filter}
use Rattle.std.specs.Cmp.{IsTotalOrder}
use Rattle.std.specs.Cmp.Rules.{comparing}
use Rattle.std.specs.List.{AllByRecursion}
use Rattle.std.specs.List.Sorted.{IsStrictlySortedBy}
use Rattle.std.specs.Ordering.{nat_cmp, is_eq, is_lt, ordering_reverse}
use Rattle.std.specs.declared.cmp.Ordering.{Ordering}
use Rattle.std.specs.declared.cmp.Ordering.TheVariants.{Less, Equal, Greater}
use Rattle.std.proofs.lemmas.Bool.{false≢true, ltb-true, ltb-false}
use Rattle.bl_entry.specs.declared.key.Entry.{Entry}
use Rattle.bl_entry.specs.declared.key.Kind.{Kind}
use Rattle.bl_entry.specs.declared.key.Kind.TheVariants.{Deletion, Value, BlobRef}
use Rattle.bl_entry.specs.Entries.{AreInOrder, stands_before}
use Rattle.bl_entry.specs.Keys.{Key, key_cmp, kind_number}
use Rattle.bl_entry.specs.Latest.{AscendingAreInOrder}
use Rattle.bl_entry.proofs.ListLemmas.{by_test}

pub key_total : IsTotalOrder key_cmp
key_total = search (comparing, rules)

-- ---- what a comparison says

pub eq_of : (o : Ordering) → is_eq o ≡ true → o ≡ Equal
eq_of Less h = absurd (false≢true h)
eq_of Equal h = refl
eq_of Greater h = absurd (false≢true h)

pub nat_cmp_lt : (a b : ℕ) → is_lt (nat_cmp a b) ≡ true → a < b
nat_cmp_lt a b h = by_test (nat_lt a b) (λ e. ltb-true a b e) (λ e. absurd (false≢true (sym (not_lt e) ∙ h)))
  where
    not_lt : nat_lt a b ≡ false → is_lt (nat_cmp a b) ≡ false
    not_lt e = grind arith

pub nat_cmp_ge : (a b : ℕ) → is_lt (nat_cmp a b) ≡ false → b ≤ a
nat_cmp_ge a b h = by_test (nat_lt a b) (λ e. absurd (false≢true (sym h ∙ yes e))) (λ e. ltb-false a b e)
  where
    yes : nat_lt a b ≡ true → is_lt (nat_cmp a b) ≡ true
    yes e = grind arith

pub kind_small : (k : Kind) → kind_number k < 256
kind_small Deletion = omega arith
kind_small Value = omega arith
kind_small BlobRef = omega arith

-- ---- lists in order

-- a key stands before all of them
abbrev pub AreBehind : Key → List Entry → Type 0
AreBehind k es = AllByRecursion (λ q. key_cmp k q ≡ Less) (map (λ e. e.key) es)

-- none of them stands before an entry
abbrev pub NoneBefore : Entry → List Entry → Type 0
NoneBefore e es = AllByRecursion (λ x. stands_before x e ≡ false) es

pub less_not_before : (x y : Entry) → key_cmp x.key y.key ≡ Less → stands_before y x ≡ false
less_not_before x y lt = ap is_lt (key_total.antisymm y.key x.key ∙ ap ordering_reverse lt)

none_before_of : (e : Entry) (es : List Entry) → AreBehind e.key es → NoneBefore e es
none_before_of e [] h = tt
none_before_of e (x ∷ es) h = (less_not_before e x h.0, none_before_of e es h.1)

pub ascending_in_order : AscendingAreInOrder
unfolding IsStrictlySortedBy
ascending_in_order [] up = tt
ascending_in_order (e ∷ es) up = (none_before_of e es up.0, ascending_in_order es up.1)

none_step : (b : Bool) (e x : Entry) (es : List Entry) → stands_before x e ≡ false → NoneBefore e es → NoneBefore e (cond b (x ∷ es) es)
none_step true e x es h k = (h, k)
none_step false e x es h k = k

none_filtered : (q : Entry → Bool) (e : Entry) (es : List Entry) → NoneBefore e es → NoneBefore e (filter q es)
none_filtered q e [] h = tt
none_filtered q e (x ∷ es) h = none_step (q x) e x (filter q es) h.0 (none_filtered q e es h.1)

order_step : (b : Bool) (x : Entry) (es : List Entry) → NoneBefore x es → AreInOrder es → AreInOrder (cond b (x ∷ es) es)
order_step true x es h up = (h, up)
order_step false x es h up = up

-- what stays of a list in order is in order
pub order_filtered : (q : Entry → Bool) (es : List Entry) → AreInOrder es → AreInOrder (filter q es)
order_filtered q [] up = tt
order_filtered q (x ∷ es) up = order_step (q x) x (filter q es) (none_filtered q x es up.0) (order_filtered q es up.1)
