-- A key that is not there, from the first entry at it or behind it.
use Rattle.std.proofs.Common.{◌≡◌, ◌≢◌, true, false, cond, List, [], ◌∷◌, sym, ◌∙◌, ap, rules}
use Rattle.std.specs.Prelude.{Some, None}
use Rattle.std.specs.Cmp.{IsEquivalence, tied_itself}
use Rattle.std.specs.Cmp.Rules.{comparing}
use Rattle.std.specs.List.Sorted.{IsStrictlySortedBy}
use Rattle.std.specs.Ordering.{is_ge}
use Rattle.std.proofs.lemmas.Bool.{false≢true}
use Rattle.bl_entry.specs.declared.key.Entry.{Entry}
use Rattle.bl_entry.specs.Entries.{IsAscending}
use Rattle.bl_entry.specs.Keys.{Key, key_cmp, same_key}
use Rattle.bl_entry.proofs.ListLemmas.{by_test}
use Rattle.bl_entry.proofs.OrderLemmas.{AreBehind, key_total}
use Rattle.bl_memtab.specs.Tables.{IsFree, after, is_reached}

same_equiv : IsEquivalence same_key
same_equiv = search (comparing, rules)

pub other_key : (a b : Key) → same_key a b ≡ false → a ≢ b
other_key a b h e = false≢true (sym h ∙ ap (same_key a) (sym e) ∙ same_equiv.refl a)

behind_free : (key : Key) (x : Entry) (es : List Entry) → is_reached key false x ≡ true → AreBehind x.key es → IsFree key es
behind_free key x [] r h = tt
behind_free key x (y ∷ es) r h = (
  (λ e. false≢true (ap is_ge (sym (ap (key_cmp x.key) (sym e) ∙ h.0)) ∙ r)),
  behind_free key x es r h.1,
)

not_reached : (key : Key) (x : Entry) → is_reached key false x ≡ false → x.key ≢ key
not_reached key x f e = false≢true (sym f ∙ ap is_ge (ap (key_cmp x.key) (sym e) ∙ tied_itself key_total x.key))

pub free_from_none : (key : Key) (es : List Entry) → after key false es ≡ None → IsFree key es
free_from_none key [] h = tt
free_from_none key (x ∷ es) h =
    by_test (is_reached key false x)
    (λ r. let same : Some x ≡ None = sym (ap (λ b. cond b (Some x) (after key false es)) r) ∙ h in absurd cc)
    (λ f. (not_reached key x f, free_from_none key es (sym (ap (λ b. cond b (Some x) (after key false es)) f) ∙ h)))

pub free_from_other : (key : Key) (es : List Entry) (found : Entry) → IsAscending es → after key false es ≡ Some found → found.key ≢ key → IsFree key es
unfolding IsStrictlySortedBy
free_from_other key [] found up h other = tt
free_from_other key (x ∷ es) found up h other =
    by_test (is_reached key false x)
    (λ r.
    let same : Some x ≡ Some found = sym (ap (λ b. cond b (Some x) (after key false es)) r) ∙ h in
    let is : x ≡ found = cc in
    ((λ e. other (ap (λ y. y.key) (sym is) ∙ e)), behind_free key x es r up.0))
    (λ f. (not_reached key x f, free_from_other key es found up.1 (sym (ap (λ b. cond b (Some x) (after key false es)) f) ∙ h) other))
