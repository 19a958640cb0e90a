-- Tables that are merged, from a bound on.
use Rattle.std.proofs.Common.{◌≡◌, ℕ, Bool, true, false, cond, List, [], ◌∷◌, drop, refl, sym, ◌∙◌, ap, subst, Option, Some, None}
use Rattle.std.specs.Prelude.{find, map, not, slice_get}
use Rattle.std.specs.List.{AllByRecursion, AllZip}
use Rattle.std.specs.Ordering.{is_lt}
use Rattle.bl_site.specs.Disk.{Folder}
use Rattle.bl_entry.specs.declared.key.Entry.{Entry}
use Rattle.bl_entry.specs.Keys.{IsKey, Key, key_cmp}
use Rattle.bl_entry.specs.Runs.{KeepsRun}
use Rattle.bl_entry.proofs.ListLemmas.{by_test}
use Rattle.bl_merge.specs.Heads.{HasPlace, KeepAll, Merging, rest, union}
use Rattle.bl_merge.specs.Lists.{from_on, merged}
use Rattle.bl_merge.proofs.MergedLemmas.{union_all}
use Rattle.bl_cache.specs.RunLaws.{keys}
use Rattle.bl_cache.specs.Runs.{IsOutside, Keeps, Reads, TableView, entries_in, place_in}
use Rattle.bl_read.specs.declared.bound.Bound.{Bound}
use Rattle.bl_read.specs.Scanning.{IsOver, IsStartOf, is_told_at}
use Rattle.bl_read.proofs.MemoryLemmas.{at_place, none_place, not_told}

-- the runs are the same ones
abbrev pub AreSame : Merging TableView → Merging TableView → Type 0
AreSame old new = AllZip (KeepsRun entries_in Reads IsOutside) old.runs new.runs

lists_same : (f : Folder) (old new : List TableView) → AllZip (KeepsRun entries_in Reads IsOutside) old new → map (λ r. entries_in r f) new ≡ map (λ r. entries_in r f) old
lists_same f [] [] h = refl
lists_same f [] (r ∷ new) h = absurd h
lists_same f (r ∷ old) [] h = absurd h
lists_same f (r ∷ old) (q ∷ new) h = λ i. h.0.same_list f i ∷ lists_same f old new h.1 i

-- what stands before a key at which the bound begins is not told
module _ (bound : Bound) (seq : ℕ) (from : Key) (start : IsStartOf bound from) where
  pub find_from : (es : List Entry) → AllByRecursion (λ e. IsKey e.key) es → find (is_told_at bound seq) (from_on from es) ≡ find (is_told_at bound seq) es
  find_from [] k = refl
  find_from (x ∷ es) k =
      by_test (is_lt (key_cmp x.key from))
      (λ t.
      ap (λ b. find (is_told_at bound seq) (cond (not b) (x ∷ from_on from es) (from_on from es))) t ∙ find_from es k.1
      ∙ sym (ap (λ b. cond b (Some x) (find (is_told_at bound seq) es)) (not_told bound seq from start x k.0 t)))
      (λ n.
      ap (λ b. find (is_told_at bound seq) (cond (not b) (x ∷ from_on from es) (from_on from es))) n
      ∙ ap (λ o. cond (is_told_at bound seq x) (Some x) o) (find_from es k.1))

-- The runs have these lists and a place, and what passes first of what they have yet to give passes first of all.
pub record IsGoing (f : Folder) (lists : List (List Entry)) (p : Entry → Bool) (m : Merging TableView) : Type 0 where
  pub over : IsOver f lists m
  pub placed : HasPlace entries_in place_in Keeps m f
  pub told : find p (merged lists) ≡ find p (rest entries_in place_in m f)

pub still_over : (f : Folder) (lists : List (List Entry)) (old new : Merging TableView) → IsOver f lists old → AreSame old new → KeepAll Keeps new f → IsOver f lists new
still_over f lists old new over same keeps = record { lists_are = lists_same f old.runs new.runs same ∙ over.lists_are; keeps = keeps }

module _ (f : Folder) (lists : List (List Entry)) (old new : Merging TableView) (bound : Bound) (seq : ℕ) where
  abbrev p : Entry → Bool
  p = is_told_at bound seq

  pub sought : (from : Key) → IsStartOf bound from → IsOver f lists old → AreSame old new → (KeepAll Keeps old f → HasPlace entries_in place_in Keeps new f)
      → (KeepAll Keeps old f → rest entries_in place_in new f ≡ from_on from (union entries_in old f)) → IsGoing f lists p new
  sought from start over same placed moved =
      let at = placed over.keeps in
      record {
        over = still_over f lists old new over same at.kept;
        placed = at;
        told =
            ap (λ ls. find p (merged ls)) (sym over.lists_are)
            ∙ sym (find_from bound seq from start (union entries_in old f) (union_all (λ e. IsKey e.key) entries_in f (λ r. keys r f) old.runs))
            ∙ ap (find p) (sym (moved over.keeps));
      }

  -- what is given next, at a folder that is the same
  pub passed : (g : Folder) → g ≡ f → IsGoing f lists p old → AreSame old new → (e : Entry) (found : Option Entry) → found ≡ Some e → p e ≡ false
      → (HasPlace entries_in place_in Keeps old g → HasPlace entries_in place_in Keeps new g)
      → (HasPlace entries_in place_in Keeps old g → found ≡ slice_get (rest entries_in place_in old g) 0)
      → (HasPlace entries_in place_in Keeps old g → rest entries_in place_in new g ≡ drop 1 (rest entries_in place_in old g)) → IsGoing f lists p new
  passed g is going same e found found_is fails placed given moved =
      let before : HasPlace entries_in place_in Keeps old g = subst (HasPlace entries_in place_in Keeps old) (sym is) going.placed in
      let at : HasPlace entries_in place_in Keeps new f = subst (HasPlace entries_in place_in Keeps new) is (placed before) in
      let first : slice_get (rest entries_in place_in old f) 0 ≡ Some e = subst (λ h. slice_get (rest entries_in place_in old h) 0 ≡ Some e) is (sym (given before) ∙ found_is) in
      let left : rest entries_in place_in new f ≡ drop 1 (rest entries_in place_in old f) = subst (λ h. rest entries_in place_in new h ≡ drop 1 (rest entries_in place_in old h)) is (moved before) in
      record {
        over = still_over f lists old new going.over same at.kept;
        placed = at;
        told = going.told ∙ at_place p (rest entries_in place_in old f) 0 e first ∙ ap (λ b. cond b (Some e) (find p (drop 1 (rest entries_in place_in old f)))) fails ∙ ap (find p) (sym left);
      }

  pub found_told : (g : Folder) → g ≡ f → IsGoing f lists p old → (e : Entry) (found : Option Entry) → found ≡ Some e → p e ≡ true
      → (HasPlace entries_in place_in Keeps old g → found ≡ slice_get (rest entries_in place_in old g) 0) → Some e ≡ find p (merged lists)
  found_told g is going e found found_is passes given =
      let before : HasPlace entries_in place_in Keeps old g = subst (HasPlace entries_in place_in Keeps old) (sym is) going.placed in
      let first : slice_get (rest entries_in place_in old f) 0 ≡ Some e = subst (λ h. slice_get (rest entries_in place_in old h) 0 ≡ Some e) is (sym (given before) ∙ found_is) in
      sym (going.told ∙ at_place p (rest entries_in place_in old f) 0 e first ∙ ap (λ b. cond b (Some e) (find p (drop 1 (rest entries_in place_in old f)))) passes)

  pub none_told : (g : Folder) → g ≡ f → IsGoing f lists p old → (found : Option Entry) → found ≡ None
      → (HasPlace entries_in place_in Keeps old g → found ≡ slice_get (rest entries_in place_in old g) 0) → None ≡ find p (merged lists)
  none_told g is going found found_is given =
      let before : HasPlace entries_in place_in Keeps old g = subst (HasPlace entries_in place_in Keeps old) (sym is) going.placed in
      let first : slice_get (rest entries_in place_in old f) 0 ≡ None = subst (λ h. slice_get (rest entries_in place_in old h) 0 ≡ None) is (sym (given before) ∙ found_is) in
      sym (going.told ∙ none_place p (rest entries_in place_in old f) 0 first)

  -- after a call at a folder that is the same
  pub over_after : (g : Folder) → g ≡ f → IsOver f lists old → AreSame old new → (KeepAll Keeps old g → KeepAll Keeps new g) → IsOver f lists new
  over_after g is over same keeps = still_over f lists old new over same (subst (KeepAll Keeps new) is (keeps (subst (KeepAll Keeps old) (sym is) over.keeps)))
