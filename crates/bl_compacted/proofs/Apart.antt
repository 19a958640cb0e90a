-- No two of a list are the same, by a test and by what it stands for.
use Rattle.std.proofs.Common.{◌≡◌, Bool, true, false, List, [], ◌∷◌, refl, sym, ◌∙◌, inl, inr}
use Rattle.std.specs.Prelude.{◌⊎◌, ◌==◌, ◌&&◌}
use Rattle.std.specs.List.{AllByRecursion, IsDistinct}
use Rattle.std.proofs.lemmas.Bool.{eq-eqb, eqb-true, false≢true}
use Rattle.bl_code.specs.Order.{same_bytes}
use Rattle.bl_entry.specs.Revisions.{Revision}
use Rattle.bl_out.specs.References.{Reference}
use Rattle.bl_out.specs.Tables.{same_record}
use Rattle.bl_out.specs.Values.{same_revision}
use Rattle.bl_compacted.specs.Pairs.{AreApart, AreDistinct, Pairwise}
use Rattle.bl_compacted.proofs.ValueLemmas.{key_same, same_key}

-- where the test fails exactly where the relation holds
module _ {A : Type 0} (same : A → A → Bool) (R : A → A → Type 0) (to : (a b : A) → same a b ≡ false → R a b) (from : (a b : A) → R a b → same a b ≡ false) where
  all_to : (x : A) (ys : List A) → AllByRecursion (λ y. same x y ≡ false) ys → AllByRecursion (R x) ys
  all_to x [] h = tt
  all_to x (y ∷ ys) h = (to x y h.0, all_to x ys h.1)

  all_from : (x : A) (ys : List A) → AllByRecursion (R x) ys → AllByRecursion (λ y. same x y ≡ false) ys
  all_from x [] h = tt
  all_from x (y ∷ ys) h = (from x y h.0, all_from x ys h.1)

  pub pairs_of : (xs : List A) → IsDistinct same xs → Pairwise R xs
  unfolding IsDistinct
  pairs_of [] d = tt
  pairs_of (x ∷ xs) d = (all_to x xs d.0, pairs_of xs d.1)

  pub distinct_of : (xs : List A) → Pairwise R xs → IsDistinct same xs
  unfolding IsDistinct
  distinct_of [] p = tt
  distinct_of (x ∷ xs) p = (all_from x xs p.0, distinct_of xs p.1)

-- two tests, of which one fails
either : (a b : Bool) → (a && b) ≡ false → (a ≡ false) ⊎ (b ≡ false)
either true b e = inr e
either false b e = inl refl

neither_left : (a b : Bool) → a ≡ false → (a && b) ≡ false
neither_left true b e = absurd (false≢true (sym e))
neither_left false b e = refl

neither_right : (a b : Bool) → b ≡ false → (a && b) ≡ false
neither_right true b e = e
neither_right false b e = refl

not_true : (b : Bool) → (b ≡ true → ⊥) → b ≡ false
not_true true n = absurd (n refl)
not_true false n = refl

differ : (a b : Revision) → same_revision a b ≡ false → AreDistinct a b
differ a b e = elim (either (same_bytes a.key b.key) (a.seq == b.seq) e) [
  | inl n ↦ inl (λ is. false≢true (sym n ∙ key_same a.key b.key is))
  | inr n ↦ inr (λ is. false≢true (sym n ∙ eq-eqb a.seq b.seq is))
]

not_same : (a b : Revision) → AreDistinct a b → same_revision a b ≡ false
not_same a b (inl n) = neither_left (same_bytes a.key b.key) (a.seq == b.seq) (not_true (same_bytes a.key b.key) (λ t. n (same_key a.key b.key t)))
not_same a b (inr n) = neither_right (same_bytes a.key b.key) (a.seq == b.seq) (not_true (a.seq == b.seq) (λ t. n (eqb-true a.seq b.seq t)))

stand_apart : (a b : Reference) → same_record a b ≡ false → AreApart a b
stand_apart a b e = elim (either (a.index.file == b.index.file) (a.index.offset == b.index.offset) e) [
  | inl n ↦ inl (λ is. false≢true (sym n ∙ eq-eqb a.index.file b.index.file is))
  | inr n ↦ inr (λ is. false≢true (sym n ∙ eq-eqb a.index.offset b.index.offset is))
]

not_one : (a b : Reference) → AreApart a b → same_record a b ≡ false
not_one a b (inl n) = neither_left (a.index.file == b.index.file) (a.index.offset == b.index.offset) (not_true (a.index.file == b.index.file) (λ t. n (eqb-true a.index.file b.index.file t)))
not_one a b (inr n) = neither_right (a.index.file == b.index.file) (a.index.offset == b.index.offset) (not_true (a.index.offset == b.index.offset) (λ t. n (eqb-true a.index.offset b.index.offset t)))

pub once_pairs : (xs : List Revision) → IsDistinct same_revision xs → Pairwise AreDistinct xs
once_pairs xs d = pairs_of same_revision AreDistinct differ not_same xs d

pub pairs_once : (xs : List Revision) → Pairwise AreDistinct xs → IsDistinct same_revision xs
pairs_once xs p = distinct_of same_revision AreDistinct differ not_same xs p

pub apart_pairs : (xs : List Reference) → IsDistinct same_record xs → Pairwise AreApart xs
apart_pairs xs d = pairs_of same_record AreApart stand_apart not_one xs d

pub pairs_apart : (xs : List Reference) → Pairwise AreApart xs → IsDistinct same_record xs
pairs_apart xs p = distinct_of same_record AreApart stand_apart not_one xs p
