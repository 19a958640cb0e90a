-- Pairs that are told, and keys that are passed over.
use Rattle.std.proofs.Common.{◌≡◌, ℕ, List, sym, ◌∙◌, subst, Option, Some, None}
use Rattle.bl_site.specs.Disk.{Folder, Name}
use Rattle.bl_entry.specs.Revisions.{Map}
use Rattle.bl_build.specs.Listing.{Listing}
use Rattle.bl_merge.specs.Heads.{Merging}
use Rattle.bl_cache.specs.Runs.{TableView}
use Rattle.bl_read.specs.declared.bound.Bound.{Bound}
use Rattle.bl_read.specs.declared.bound.Bound.TheVariants.{After}
use Rattle.bl_read.specs.declared.told.Told.{Told}
use Rattle.bl_read.specs.Giving.{Gives, View}
use Rattle.bl_read.specs.Reading.{IsDamaged}
use Rattle.bl_read.specs.Scanning.{IsNextKey, IsNextTold, IsScan, next_in}
use Rattle.bl_read.proofs.NextLemmas.{next_after, next_none, next_some}

-- ---- at a folder that is the same

module _ (f g : Folder) (same : g ≡ f) (version : Listing) (old : Merging TableView) (scan : IsScan f version old) where
  pub there : IsScan g version old
  there = subst (λ (h : Folder). IsScan h version old) (sym same) scan

  pub scan_at : (new : Merging TableView) → (IsScan g version old → IsScan g version new) → IsScan f version new
  scan_at new after = subst (λ (h : Folder). IsScan h version new) same (after there)

  pub damaged_at : (name : Name) → (IsScan g version old → IsDamaged g version name) → IsDamaged f version name
  damaged_at name damaged = subst (λ (h : Folder). IsDamaged h version name) same (damaged there)

pub gives_at : (f g : Folder) → g ≡ f → (v : View) (seq : ℕ) (m : Map) → Gives f v seq m → Gives g v seq m
gives_at f g same v seq m gives = subst (λ (h : Folder). Gives h v seq m) (sym same) gives

-- ---- what is told of a key

module _ (m : Map) (first bound : Bound) (same : next_in first m ≡ next_in bound m) (found : Option Told) (told : IsNextTold m bound found) where
  pub ended : found ≡ None → None ≡ next_in first m
  ended is = sym (same ∙ next_none m bound (subst (IsNextTold m bound) is told))

  pub told_pair : (t : Told) (value : List ℕ) → found ≡ Some t → t.put ≡ Some value → Some (record { key = t.key; value = value }) ≡ next_in first m
  told_pair t value is put =
      let next : IsNextKey m bound t.key t.put = subst (IsNextTold m bound) is told in
      sym (same ∙ next_some m bound t.key value (subst (IsNextKey m bound t.key) put next))

  pub goes_on : (t : Told) → found ≡ Some t → t.put ≡ None → next_in first m ≡ next_in (After t.key) m
  goes_on t is put =
      let next : IsNextKey m bound t.key t.put = subst (IsNextTold m bound) is told in
      same ∙ next_after m bound t.key (subst (IsNextKey m bound t.key) put next)
