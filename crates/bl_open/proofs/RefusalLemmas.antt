-- Why an opening is refused: one reason at most.
use Rattle.std.proofs.Common.{◌≡◌, ◌⊎◌, inl, inr, ℕ, List, Result, Ok, Err, refl, sym, ◌∙◌, ap, subst}
use Rattle.bl_site.specs.Disk.{Folder, Name}
use Rattle.bl_build.specs.Restoring.{Restored}
use Rattle.bl_entry.specs.Batches.{Batch}
use Rattle.bl_folder.specs.Laws.{LiveIsOne}
use Rattle.bl_folder.specs.Live.{IsFresh, IsLive}
use Rattle.bl_folder.specs.Logs.{HaveBatches}
use Rattle.bl_open.specs.Checks.{AllPass}
use Rattle.bl_open.specs.Damage.{IsDamaged}
use Rattle.bl_open.specs.DamageLaws.{DamageIsOne, FullAreNotRefused, LackingAreNotFresh, LackingAreNotLive, PassingAreNotDamaged}
use Rattle.bl_open.specs.Options.{Words, check_options}
use Rattle.bl_open.specs.Recovering.{AnswersAsRefused, AnswersOnly, HasLoaded, IsRefused, IsRefusal}
use Rattle.bl_open.specs.declared.begin.Loaded.{Loaded}
use Rattle.bl_open.specs.declared.error.OpenErr.{OpenErr}
use Rattle.bl_open.specs.declared.error.OpenErr.TheVariants.{Disk, Corrupt, Full, Differ, OutOfMemory}

pub damaged_of : (folder : Folder) (words : Words) (name : Name) (place : ℕ) → IsRefused folder words (Corrupt name place) → IsDamaged folder name place
damaged_of folder words name place (inl lacks) = inl lacks
damaged_of folder words name place (inr (manifest, (live, is, agree, fails))) = inr (manifest, (live, is, fails))

differ_is : {A : Type 0} (r : Result A OpenErr) (x : A) (e : OpenErr) → r ≡ Ok x → r ≡ Err e → ⊥
differ_is r x e p q = cc (p, q)

err_is : {A : Type 0} (e f : OpenErr) → ◌≡◌ {A = Result A OpenErr} (Err e) (Err f) → e ≡ f
err_is e f p = cc p

module _ (one : DamageIsOne) (live_one : LiveIsOne) (lacking : LackingAreNotLive) (folder : Folder) (words : Words) where
  same_options : (m n : ℕ) (x y : Restored) → IsLive folder m x → IsLive folder n y → check_options x.standing.options words ≡ check_options y.standing.options words
  same_options m n x y a b = ap (λ (r : Restored). check_options r.standing.options words) (live_one folder m n x y a b).1

  not_both : (name : Name) (place option stored asked : ℕ) → IsRefused folder words (Corrupt name place) → IsRefused folder words (Differ option stored asked) → ⊥
  not_both name place option stored asked (inl lacks) (n, (live, is, differs)) = lacking folder name place n live lacks is
  not_both name place option stored asked (inr (m, (x, is, agree, fails))) (n, (y, is_too, differs)) = differ_is (check_options y.standing.options words) tt (Differ option stored asked) (sym (same_options m n x y is is_too) ∙ agree) differs

  pub refusal_is_one : (e f : OpenErr) → IsRefused folder words e → IsRefused folder words f → e ≡ f
  refusal_is_one Disk f p q = absurd p
  refusal_is_one (Full next) f p q = absurd p
  refusal_is_one OutOfMemory f p q = absurd p
  refusal_is_one (Corrupt name place) Disk p q = absurd q
  refusal_is_one (Corrupt name place) (Full next) p q = absurd q
  refusal_is_one (Corrupt name place) OutOfMemory p q = absurd q
  refusal_is_one (Corrupt name place) (Corrupt other at) p q =
      let same = one folder name other place at (damaged_of folder words name place p) (damaged_of folder words other at q) in
      λ i. Corrupt (same.0 i) (same.1 i)
  refusal_is_one (Corrupt name place) (Differ option stored asked) p q = absurd (not_both name place option stored asked p q)
  refusal_is_one (Differ option stored asked) Disk p q = absurd q
  refusal_is_one (Differ option stored asked) (Full next) p q = absurd q
  refusal_is_one (Differ option stored asked) OutOfMemory p q = absurd q
  refusal_is_one (Differ option stored asked) (Corrupt name place) p q = absurd (not_both name place option stored asked q p)
  refusal_is_one (Differ option stored asked) (Differ other there wanted) (m, (x, is, differs)) (n, (y, is_too, differs_too)) =
      err_is (Differ option stored asked) (Differ other there wanted) (sym differs ∙ same_options m n x y is is_too ∙ differs_too)

-- a fresh folder is not refused
pub fresh_not_refused : LackingAreNotFresh → (folder : Folder) (words : Words) (e : OpenErr) → IsFresh folder → IsRefused folder words e → ⊥
fresh_not_refused law folder words Disk fresh p = p
fresh_not_refused law folder words (Full next) fresh p = p
fresh_not_refused law folder words OutOfMemory fresh p = p
fresh_not_refused law folder words (Corrupt name place) fresh (inl lacks) = law folder name place lacks fresh
fresh_not_refused law folder words (Corrupt name place) fresh (inr (m, (live, is, agree, fails))) = cc (fresh.current, is.current)
fresh_not_refused law folder words (Differ option stored asked) fresh (m, (live, is, differs)) = cc (fresh.current, is.current)

-- nor is one that passes all checks
pub passed_not_refused : LiveIsOne → LackingAreNotLive → PassingAreNotDamaged → (folder : Folder) (words : Words) (manifest : ℕ) (live : Restored) (batches : List Batch) (last : ℕ) (e : OpenErr) → IsLive folder manifest live
    → check_options live.standing.options words ≡ Ok tt → AllPass folder live.version → HaveBatches folder live.standing.log_number live.standing.last_sequence batches last → IsRefused folder words e → ⊥
passed_not_refused one lacking passing folder words manifest live batches last Disk is agree pass have p = p
passed_not_refused one lacking passing folder words manifest live batches last (Full next) is agree pass have p = p
passed_not_refused one lacking passing folder words manifest live batches last OutOfMemory is agree pass have p = p
passed_not_refused one lacking passing folder words manifest live batches last (Corrupt name place) is agree pass have p =
    passing folder name place manifest live batches last is pass have (damaged_of folder words name place p)
passed_not_refused one lacking passing folder words manifest live batches last (Differ option stored asked) is agree pass have (n, (other, is_too, differs)) =
    differ_is (check_options other.standing.options words) tt (Differ option stored asked)
    (ap (λ (r : Restored). check_options r.standing.options words) (one folder n manifest other live is_too is).1 ∙ agree) differs

pub loaded_not_refused : LiveIsOne → LackingAreNotLive → PassingAreNotDamaged → (folder : Folder) (manifest : ℕ) (words : Words) (l : Loaded) (e : OpenErr) → HasLoaded folder manifest words l → IsRefused folder words e → ⊥
loaded_not_refused one lacking passing folder manifest words l e h p =
    passed_not_refused one lacking passing folder words manifest h.live h.logs.batches l.last e h.is_live h.agree h.pass h.logs.have p

pub full_not_refused : LackingAreNotFresh → LiveIsOne → LackingAreNotLive → PassingAreNotDamaged → FullAreNotRefused
full_not_refused fresh one lacking passing folder words e (inl full) p = fresh_not_refused fresh folder words e full.fresh p
full_not_refused fresh one lacking passing folder words e (inr full) p =
    passed_not_refused one lacking passing folder words full.manifest full.live full.batches full.last e full.is_live full.agree full.pass full.have p

-- what tells, where it is right, is due
pub due_of : {T : Type 0} → DamageIsOne → LiveIsOne → LackingAreNotLive → (folder : Folder) (words : Words) (f : OpenErr) (result : Result T OpenErr) → result ≡ Err f → (IsRefusal f → IsRefused folder words f)
    → ((n : ℕ) → f ≡ Full n → (e : OpenErr) → IsRefused folder words e → ⊥) → AnswersAsRefused folder words result
due_of {T} one live lacking folder words f result is only full = record {
  only = λ e told telling. let same : f ≡ e = err_same (sym is ∙ told) in subst (IsRefused folder words) same (only (subst IsRefusal (sym same) telling));
  due = λ e refused. subst (AnswersOnly e) (sym is) (by f refl e refused);
}
  where
    err_same : {e g : OpenErr} → ◌≡◌ {A = Result T OpenErr} (Err e) (Err g) → e ≡ g
    err_same p = cc p

    by : (g : OpenErr) → f ≡ g → (e : OpenErr) → IsRefused folder words e → (g ≡ e) ⊎ ((g ≡ Disk) ⊎ (g ≡ OutOfMemory))
    by Disk q e refused = inr (inl refl)
    by OutOfMemory q e refused = inr (inr refl)
    by (Full next) q e refused = absurd (full next q e refused)
    by (Corrupt name place) q e refused = inl (refusal_is_one one live lacking folder words (Corrupt name place) e (subst (IsRefused folder words) q (only (subst IsRefusal (sym q) tt))) refused)
    by (Differ option stored asked) q e refused = inl (refusal_is_one one live lacking folder words (Differ option stored asked) e (subst (IsRefused folder words) q (only (subst IsRefusal (sym q) tt))) refused)

-- where nothing is refused, nothing is told
pub none_refused : {T : Type 0} → (folder : Folder) (words : Words) (result : Result T OpenErr) → ((e : OpenErr) → result ≡ Err e → IsRefusal e → ⊥) → ((e : OpenErr) → IsRefused folder words e → ⊥) → AnswersAsRefused folder words result
none_refused folder words result silent none = record {
  only = λ e told telling. absurd (silent e told telling);
  due = λ e refused. absurd (none e refused);
}
