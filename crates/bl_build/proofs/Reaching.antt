-- Versions that edits lead to, and what exact accounts say of them.
use Rattle.std.proofs.Common.{◌≡◌, ◌≢◌, ℕ, ◌+◌, ◌-◌, ◌≤◌, Bool, true, false, cond, List, [], ◌∷◌, length, refl, sym, ◌∙◌, ap, subst, arith, inl, inr, Some, None}
use Rattle.std.specs.Prelude.{◌==◌, ◌&&◌, nat_le, not, filter, count_by, sum, IsTrue, Option, Result, Ok, Err}
use Rattle.std.specs.List.{AllByRecursion, fold}
use Rattle.std.proofs.lemmas.Bool.{cases_eq, eq-eqb, leb-true, false≢true}
use Rattle.bl_code.specs.Reading.{◌>>=◌}
use Rattle.bl_edit.specs.declared.edit.Edit.{Edit}
use Rattle.bl_edit.specs.declared.edit.NewTable.{NewTable}
use Rattle.bl_edit.specs.Bounds.{IsEdit, is_number}
use Rattle.bl_build.specs.declared.error.BadVersion.{BadVersion}
use Rattle.bl_build.specs.declared.error.BadVersion.TheVariants.{UnknownTable, Twice, Overlap, UnknownBlob, Overflow}
use Rattle.bl_build.specs.declared.meta.BlobMeta.{BlobMeta}
use Rattle.bl_build.specs.Laws.{AreLinked, FoldsAreVersions, IsExact, ReachesExactly, References}
use Rattle.bl_build.specs.Listing.{Listing, nothing}
use Rattle.bl_build.specs.Versions.{IsVersion, addition_numbers, after, applied, apply, blob_numbers, first_over, first_overlap, first_twice, first_unknown, first_unknown_blob, from_linked, is_spent, linked_to, refuse, table_numbers, with_blobs, without}
use Rattle.bl_build.proofs.Levels.{both_true, not_eqb}
use Rattle.bl_build.proofs.Stepping.{after_is_version, both_all, nothing_is_version}

-- ---- edits lead to versions

passed : (why : ℕ → BadVersion) (o : Option ℕ) (rest : Result Listing BadVersion) (v : Listing) → (refuse why o >>= λ u. rest) ≡ Ok v → (o ≡ None) × (rest ≡ Ok v)
passed why None rest v h = (refl, h)
passed why (Some n) rest v h = absurd cc

module _ (base : Listing) (e : Edit) where
  made : Result Listing BadVersion
  made = Ok (after base e)

  from_6 : Result Listing BadVersion
  unfolding made
  from_6 = refuse Overflow (first_over (with_blobs e.blobs base.blobs) e.garbage) >>= λ u. made

  from_5 : Result Listing BadVersion
  from_5 = refuse UnknownBlob (first_unknown_blob (with_blobs e.blobs base.blobs) e.garbage) >>= λ u. from_6

  from_4 : Result Listing BadVersion
  from_4 = refuse Overlap (first_overlap (without e.deleted base.tables) e.added) >>= λ u. from_5

  from_3 : Result Listing BadVersion
  from_3 = refuse Twice (first_twice (blob_numbers base.blobs) (addition_numbers e.blobs)) >>= λ u. from_4

  from_2 : Result Listing BadVersion
  from_2 = refuse Twice (first_twice (table_numbers (without e.deleted base.tables)) (table_numbers e.added)) >>= λ u. from_3

  next_is_version : (v : Listing) → IsVersion base → IsEdit e → apply base e ≡ Ok v → IsVersion v
  unfolding apply from_2 from_3 from_4 from_5 from_6 made
  next_is_version v h k is =
      let p1 = passed UnknownTable (first_unknown base.tables e.deleted) from_2 v is in
      let p2 = passed Twice (first_twice (table_numbers (without e.deleted base.tables)) (table_numbers e.added)) from_3 v p1.1 in
      let p3 = passed Twice (first_twice (blob_numbers base.blobs) (addition_numbers e.blobs)) from_4 v p2.1 in
      let p4 = passed Overlap (first_overlap (without e.deleted base.tables) e.added) from_5 v p3.1 in
      let p5 = passed UnknownBlob (first_unknown_blob (with_blobs e.blobs base.blobs) e.garbage) from_6 v p4.1 in
      let p6 = passed Overflow (first_over (with_blobs e.blobs base.blobs) e.garbage) made v p5.1 in
      subst IsVersion (ok_same (after base e) v p6.1) (after_is_version base e h k (record { known = p1.0; tables = p2.0; blobs = p3.0 }) p4.0 p6.0)
    where
      or_base : Listing → Result Listing BadVersion → Listing
      or_base d (Ok w) = w
      or_base d (Err w) = d

      ok_same : (a b : Listing) → ◌≡◌ {A = Result Listing BadVersion} (Ok a) (Ok b) → a ≡ b
      ok_same a b h = ap (or_base a) h

went : (r : Result Listing BadVersion) (f : Listing → Result Listing BadVersion) (v : Listing) → (r >>= f) ≡ Ok v → (w : Listing) × (r ≡ Ok w) × (f w ≡ Ok v)
went (Ok w) f v h = (w, refl, h)
went (Err w) f v h = absurd cc

all_are_versions : (base : Listing) (es : List Edit) (v : Listing) → IsVersion base → AllByRecursion IsEdit es → applied base es ≡ Ok v → IsVersion v
unfolding applied
all_are_versions base [] v h k is = subst IsVersion (ok_same base v is) h
  where
    or_base : Listing → Result Listing BadVersion → Listing
    or_base d (Ok w) = w
    or_base d (Err w) = d

    ok_same : (a b : Listing) → ◌≡◌ {A = Result Listing BadVersion} (Ok a) (Ok b) → a ≡ b
    ok_same a b e = ap (or_base a) e
all_are_versions base (e ∷ es) v h k is =
    let step = went (apply base e) (λ next. applied next es) v is in
    all_are_versions step.0 es v (next_is_version base e step.0 h k.0 step.1) k.1 step.2

pub folds_are_versions : FoldsAreVersions
folds_are_versions v led = all_are_versions nothing led.0 v nothing_is_version led.1 led.2

-- ---- exact accounts

-- a linked file is named by an entry of a table
linked_or_not : (references : References) (n : ℕ) → n ≢ 0 → (ts : List NewTable) (a : ℕ) (P : Type 0) → AreLinked references ts → (1 ≤ length (references n) → P)
    → (fold (λ (m : ℕ) (t : NewTable). m + cond (t.oldest_blob == n) 1 0) a ts ≡ a → P) → P
linked_or_not references n some [] a P h f g = g refl
linked_or_not references n some (t ∷ ts) a P h f g = elim (cases_eq t.oldest_blob n) [
  | inl e ↦ f (subst (λ (m : ℕ). 1 ≤ length (references m)) e (h.0 (λ z. some (sym e ∙ z))))
  | inr other ↦
      let same : a + cond (t.oldest_blob == n) 1 0 ≡ a = ap (λ b. a + cond b 1 0) (not_eqb t.oldest_blob n other) ∙ omega arith in
      linked_or_not references n some ts (a + cond (t.oldest_blob == n) 1 0) P h.1 f (λ z. g (z ∙ same))
]

named : (references : References) (ts : List NewTable) (n : ℕ) → n ≢ 0 → AreLinked references ts → count_by (λ t. t.oldest_blob == n) ts ≢ 0 → 1 ≤ length (references n)
named references ts n some h linked = linked_or_not references n some ts 0 (1 ≤ length (references n)) h (λ k. k) (λ z. absurd (linked z))

-- one that no entry names is spent
none_left : (references : References) (b : BlobMeta) → IsExact references b → b.linked ≡ 0 → references b.number ≡ [] → is_spent b ≡ true
none_left references b h none empty =
    let count : b.garbage.count ≡ b.total.count = h.count ∙ ap (λ rs. b.total.count - length rs) empty ∙ omega arith in
    let bytes : b.garbage.bytes ≡ b.total.bytes = h.bytes ∙ ap (λ rs. b.total.bytes - sum rs) empty ∙ omega arith in
    λ i. eq-eqb b.linked 0 none i && eq-eqb b.garbage.count b.total.count count i && eq-eqb b.garbage.bytes b.total.bytes bytes i

filter_holds : (p : BlobMeta → Bool) (bs : List BlobMeta) → AllByRecursion (λ b. p b ≡ true) (filter p bs)
filter_holds p [] = tt
filter_holds p (b ∷ bs) = holds (p b) refl (filter_holds p bs)
  where
    holds : (t : Bool) → p b ≡ t → AllByRecursion (λ c. p c ≡ true) (filter p bs) → AllByRecursion (λ c. p c ≡ true) (cond t (b ∷ filter p bs) (filter p bs))
    holds true e rest = (e, rest)
    holds false e rest = rest

some_or_none : (rs : List ℕ) (P : Type 0) → (1 ≤ length rs → P) → (rs ≡ [] → P) → P
some_or_none [] P f g = g refl
some_or_none (r ∷ rs) P f g = f (omega arith)

pub reaches_exactly : ReachesExactly
reaches_exactly v references led linked exact =
    let h : IsVersion v = folds_are_versions v led in
    let kept : AllByRecursion (λ b. not (is_spent b) ≡ true) v.blobs = subst (AllByRecursion (λ b. not (is_spent b) ≡ true)) h.needed (filter_holds (λ b. not (is_spent b)) (from_linked v.blobs)) in
    let fits : AllByRecursion (λ b. IsTrue (is_number b.number) × (linked_to v.tables b ≡ b)) v.blobs = both_all (λ b. IsTrue (is_number b.number)) (λ b. linked_to v.tables b ≡ b) _ v.blobs (λ b p q. (p, q)) h.blobs_fit h.linked in
    let sound : AllByRecursion (λ b. (not (is_spent b) ≡ true) × IsExact references b) v.blobs = both_all (λ b. not (is_spent b) ≡ true) (IsExact references) _ v.blobs (λ b p q. (p, q)) kept exact in
    both_all (λ b. IsTrue (is_number b.number) × (linked_to v.tables b ≡ b)) (λ b. (not (is_spent b) ≡ true) × IsExact references b) (λ b. 1 ≤ length (references b.number)) v.blobs
    (λ b p q.
    some_or_none (references b.number) (1 ≤ length (references b.number)) (λ k. k)
    (λ empty. elim (cases_eq b.linked 0) [
      | inl none ↦ absurd (false≢true (sym (ap not (none_left references b q.1 none empty)) ∙ q.0))
      | inr some ↦
          let least : 1 ≤ b.number = leb-true 1 b.number (both_true (nat_le 1 b.number) (nat_le b.number 999999999999999) p.0).0 in
          named references v.tables b.number (λ z. omega (arith, least, z)) linked (λ z. some (sym (ap (λ (c : BlobMeta). c.linked) p.1) ∙ z))
    ]))
    fits sound
