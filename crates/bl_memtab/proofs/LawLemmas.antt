-- The first entry of a memory table, and the one behind another.
use Rattle.std.proofs.Common.{◌≡◌, ℕ, zero, suc, ◌≤◌, true, false, cond, List, [], ◌∷◌, ◌++◌, length, refl, ◌∙◌, ap, subst, arith, ◌⊎◌, inl, inr}
use Rattle.std.specs.Prelude.{slice_get, Some}
use Rattle.std.specs.Cmp.{tied_itself}
use Rattle.std.specs.List.Sorted.{IsStrictlySortedBy}
use Rattle.std.specs.Ordering.{nat_cmp, is_ge, is_gt, ordering_reverse, ordering_then}
use Rattle.std.specs.declared.cmp.Ordering.TheVariants.{Less, Equal, Greater}
use Rattle.bl_code.specs.Order.{bytes_cmp}
use Rattle.bl_entry.specs.declared.key.Entry.{Entry}
use Rattle.bl_entry.specs.declared.key.Kind.{Kind}
use Rattle.bl_entry.specs.declared.key.Kind.TheVariants.{Deletion, Value, BlobRef}
use Rattle.bl_entry.specs.Keys.{IsKey, Key, key_cmp, key_number, kind_number}
use Rattle.bl_entry.proofs.ItemLemmas.{some_is}
use Rattle.bl_entry.proofs.OrderLemmas.{AreBehind, key_total}
use Rattle.bl_memtab.specs.Laws.{AfterIsAtTheNextPlace, AfterIsNext, FirstIsFromLeast, least_key}
use Rattle.bl_memtab.specs.Tables.{after, is_reached}

-- ---- the entry behind another

behind_at : (k : Key) (front back : List Entry) (e : Entry) → AreBehind k (front ++ e ∷ back) → key_cmp k e.key ≡ Less
behind_at k [] back e h = h.0
behind_at k (x ∷ front) back e h = behind_at k front back e h.1

skips : (from : Key) (x : Entry) (es : List Entry) → is_reached from true x ≡ false → after from true (x ∷ es) ≡ after from true es
skips from x es h = ap (λ b. cond b (Some x) (after from true es)) h

first_behind : (e : Entry) (back : List Entry) → AreBehind e.key back → after e.key true back ≡ slice_get back 0
first_behind e [] h = refl
first_behind e (b ∷ back) h =
    ap (λ t. cond t (Some b) (after e.key true back)) (ap is_gt (key_total.antisymm b.key e.key ∙ ap ordering_reverse h.0))

pub after_is_next : AfterIsNext
unfolding IsStrictlySortedBy
after_is_next [] back e up = skips e.key e back (ap is_gt (tied_itself key_total e.key)) ∙ first_behind e back up.0
after_is_next (x ∷ front) back e up = skips e.key x (front ++ e ∷ back) (ap is_gt (behind_at x.key front back e up.0)) ∙ after_is_next front back e up.1

at_behind : (k : Key) (es : List Entry) (place : ℕ) (e : Entry) → AreBehind k es → slice_get es place ≡ Some e → key_cmp k e.key ≡ Less
at_behind k [] place e h s = absurd cc
at_behind k (x ∷ es) zero e h s = subst (λ y. key_cmp k y.key ≡ Less) (some_is s) h.0
at_behind k (x ∷ es) (suc place) e h s = at_behind k es place e h.1 s

pub after_is_at_the_next_place : AfterIsAtTheNextPlace
unfolding IsStrictlySortedBy
after_is_at_the_next_place [] place e up s = absurd cc
after_is_at_the_next_place (x ∷ es) zero e up s =
    let is : x ≡ e = some_is s in
    let behind : AreBehind e.key es = subst (λ y. AreBehind y.key es) is up.0 in
    skips e.key x es (ap (λ y. is_gt (key_cmp y.key e.key)) is ∙ ap is_gt (tied_itself key_total e.key)) ∙ first_behind e es behind
after_is_at_the_next_place (x ∷ es) (suc place) e up s =
    skips e.key x es (ap is_gt (at_behind x.key es place e up.0 s)) ∙ after_is_at_the_next_place es place e up.1 s

-- ---- the first entry

behind_zero : (b : ℕ) → nat_cmp (suc b) 0 ≡ Greater
behind_zero b = grind arith

user_from : (user : List ℕ) → 1 ≤ length user → (bytes_cmp user (0 ∷ []) ≡ Greater) ⊎ (bytes_cmp user (0 ∷ []) ≡ Equal)
user_from [] h = absurd (omega (arith, h))
user_from (zero ∷ []) h = inr refl
user_from (zero ∷ c ∷ cs) h = inl refl
user_from (suc b ∷ bs) h = inl (ap (λ o. ordering_then o (bytes_cmp bs [])) (behind_zero b))

kind_last : (k : Kind) → kind_number k ≤ 17
kind_last Deletion = omega arith
kind_last Value = omega arith
kind_last BlobRef = omega arith

number_from : (a b : ℕ) → b ≤ a → is_ge (nat_cmp a b) ≡ true
number_from a b le = grind arith

least_reached : (e : Entry) → IsKey e.key → is_reached least_key false e ≡ true
least_reached e h = elim (user_from e.key.user h.some) [
  | inl g ↦ ap (λ o. is_ge (ordering_then o (nat_cmp (key_number least_key) (key_number e.key)))) g
  | inr q ↦
      let small : kind_number e.key.kind ≤ 17 = kind_last e.key.kind in
      ap (λ o. is_ge (ordering_then o (nat_cmp (key_number least_key) (key_number e.key)))) q
      ∙ number_from (key_number least_key) (key_number e.key) (omega (arith, h.seq))
]

pub first_is_from_least : FirstIsFromLeast
first_is_from_least [] h = refl
first_is_from_least (e ∷ es) h = ap (λ b. cond b (Some e) (after least_key false es)) (least_reached e h.0)
