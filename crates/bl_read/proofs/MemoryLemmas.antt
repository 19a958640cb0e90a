-- The entries of a memory, one after the other from a key on.
use Rattle.std.proofs.Common.{◌≡◌, ℕ, zero, suc, ◌+◌, ◌≤◌, Bool, true, false, cond, List, [], ◌∷◌, length, drop, refl, sym, ◌∙◌, ap, arith, Option, Some, None}
use Rattle.std.specs.Prelude.{◌&&◌, find, nat_le, slice_get}
use Rattle.std.specs.List.{AllByRecursion}
use Rattle.std.specs.Ordering.{is_ge, is_lt}
use Rattle.std.specs.declared.cmp.Ordering.{Ordering}
use Rattle.std.specs.declared.cmp.Ordering.TheVariants.{Less, Equal, Greater}
use Rattle.std.proofs.lemmas.Bool.{false≢true}
use Rattle.bl_entry.specs.declared.key.Entry.{Entry}
use Rattle.bl_entry.specs.Entries.{first_at}
use Rattle.bl_entry.specs.Keys.{IsKey, Key, key_cmp}
use Rattle.bl_entry.proofs.ListLemmas.{by_test}
use Rattle.bl_memtab.specs.Tables.{after}
use Rattle.bl_read.specs.declared.bound.Bound.{Bound}
use Rattle.bl_read.specs.Scanning.{IsStartOf, is_reached, is_told_at}

pub first_place : (from : Key) (es : List Entry) → after from false es ≡ slice_get es (first_at from es)
first_place from [] = refl
first_place from (x ∷ es) = by (key_cmp x.key from) (first_place from es)
  where
    by : (o : Ordering) → after from false es ≡ slice_get es (first_at from es) → cond (is_ge o) (Some x) (after from false es) ≡ slice_get (x ∷ es) (cond (is_lt o) (1 + first_at from es) 0)
    by Less h = let one : 1 + first_at from es ≡ suc (first_at from es) = omega arith in h ∙ sym (ap (slice_get (x ∷ es)) one)
    by Equal h = refl
    by Greater h = refl

-- ---- the first of a list that passes, from a place on

module _ (p : Entry → Bool) where
  pub at_place : (es : List Entry) (n : ℕ) (e : Entry) → slice_get es n ≡ Some e → find p (drop n es) ≡ cond (p e) (Some e) (find p (drop (suc n) es))
  at_place [] n e h = absurd (let wrong = h in cc wrong)
  at_place (x ∷ es) zero e h = let same : x ≡ e = cc h in ap (λ y. cond (p y) (Some y) (find p es)) same
  at_place (x ∷ es) (suc n) e h = at_place es n e h

  pub none_place : (es : List Entry) (n : ℕ) → slice_get es n ≡ None → find p (drop n es) ≡ None
  none_place [] zero h = refl
  none_place [] (suc n) h = refl
  none_place (x ∷ es) zero h = absurd (let wrong = h in cc wrong)
  none_place (x ∷ es) (suc n) h = none_place es n h

  pub past_place : (es : List Entry) (n : ℕ) → length es ≤ n → find p (drop n es) ≡ None
  past_place [] zero h = refl
  past_place [] (suc n) h = refl
  past_place (x ∷ es) zero h = absurd (omega arith)
  past_place (x ∷ es) (suc n) h = past_place es n (omega arith)

module _ (bound : Bound) (seq : ℕ) (from : Key) (start : IsStartOf bound from) where
  pub not_told : (x : Entry) → IsKey x.key → is_lt (key_cmp x.key from) ≡ true → is_told_at bound seq x ≡ false
  not_told x k h =
      by_test (is_reached bound x.key.user)
      (λ r. absurd (false≢true (sym (start x.key k r) ∙ h)))
      (λ r. ap (λ b. b && nat_le x.key.seq seq) r)

  pub skipped : (es : List Entry) → AllByRecursion (λ e. IsKey e.key) es → find (is_told_at bound seq) es ≡ find (is_told_at bound seq) (drop (first_at from es) es)
  skipped [] k = refl
  skipped (x ∷ es) k =
      by_test (is_lt (key_cmp x.key from))
      (λ t.
      let one : 1 + first_at from es ≡ suc (first_at from es) = omega arith in
      ap (λ b. cond b (Some x) (find (is_told_at bound seq) es)) (not_told x k.0 t) ∙ skipped es k.1
      ∙ sym (ap (λ n. find (is_told_at bound seq) (drop n (x ∷ es))) one) ∙ sym (ap (λ b. find (is_told_at bound seq) (drop (cond b (1 + first_at from es) 0) (x ∷ es))) t))
      (λ f. sym (ap (λ b. find (is_told_at bound seq) (drop (cond b (1 + first_at from es) 0) (x ∷ es))) f))

module _ (bound : Bound) (seq : ℕ) (from : Key) (es : List Entry) where
  abbrev pub told : ℕ → Option Entry
  told n = find (is_told_at bound seq) (drop n es)

  pub at_start : (start : IsStartOf bound from) → AllByRecursion (λ e. IsKey e.key) es → (n : ℕ) → n ≡ first_at from es → find (is_told_at bound seq) es ≡ told n
  at_start start keys n is = skipped bound seq from start es keys ∙ ap told (sym is)

  pub at_told : (n : ℕ) (e : Entry) → find (is_told_at bound seq) es ≡ told n → slice_get es n ≡ Some e → is_told_at bound seq e ≡ true → Some e ≡ find (is_told_at bound seq) es
  at_told n e all is t = sym (all ∙ at_place (is_told_at bound seq) es n e is ∙ ap (λ b. cond b (Some e) (told (suc n))) t)

  pub at_next : (n : ℕ) (e : Entry) → find (is_told_at bound seq) es ≡ told n → slice_get es n ≡ Some e → is_told_at bound seq e ≡ false → find (is_told_at bound seq) es ≡ told (suc n)
  at_next n e all is f = all ∙ at_place (is_told_at bound seq) es n e is ∙ ap (λ b. cond b (Some e) (told (suc n))) f

  pub at_none : (n : ℕ) → find (is_told_at bound seq) es ≡ told n → slice_get es n ≡ None → None ≡ find (is_told_at bound seq) es
  at_none n all is = sym (all ∙ none_place (is_told_at bound seq) es n is)

  pub at_end : (n : ℕ) → find (is_told_at bound seq) es ≡ told n → length es ≤ n → None ≡ find (is_told_at bound seq) es
  at_end n all is = sym (all ∙ past_place (is_told_at bound seq) es n is)
