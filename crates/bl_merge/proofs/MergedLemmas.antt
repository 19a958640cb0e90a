-- A merge as one value.
use Rattle.std.proofs.Common.{◌≡◌, ℕ, ◌<◌, List, [], ◌∷◌, length, map, Option, Some, None, ◌∙◌, ap, subst, arith}
use Rattle.std.specs.Prelude.{flat_map}
use Rattle.std.specs.List.{AllByRecursion, AllZip}
use Rattle.std.specs.List.Sorted.{IsPermutation}
use Rattle.std.specs.BinaryHeap.{PopsGreatest}
use Rattle.bl_site.specs.Disk.{Folder, Name}
use Rattle.bl_entry.specs.declared.key.Entry.{Entry}
use Rattle.bl_entry.specs.Entries.{IsAscending}
use Rattle.bl_entry.specs.Keys.{Key}
use Rattle.bl_entry.specs.Runs.{KeepsRun}
use Rattle.bl_merge.specs.declared.head.Head.{Head}
use Rattle.bl_merge.specs.Order.{head_cmp}
use Rattle.bl_merge.specs.Lists.{from_on, merged}
use Rattle.bl_merge.specs.Heads.{AllNumbered, HasPlace, IsMerging, IsReady, IsSought, Merging, behind, rest, rests, union}
use Rattle.bl_merge.proofs.HandLemmas.{all_permuted, popped_none, popped_once, popped_other, popped_own}
use Rattle.bl_merge.proofs.OrderLemmas.{all_append, all_in_order, merged_from}
use Rattle.bl_merge.proofs.RunLemmas.{nothing_left, ready_taken, sought_ready, sought_rests, takes_least, zip_map}

pub merging_popped : {R : Type 0} (admits : Entry → Type 0) (runs : List R) (h : Head) (old new : List Head) (due : Option ℕ) → IsMerging admits runs old due → IsPermutation old (h ∷ new) → PopsGreatest head_cmp old h new
    → IsMerging admits runs new (Some h.run)
merging_popped admits runs h old new due m perm pops =
    let numbers = all_permuted (λ x. x.run < length runs) old (h ∷ new) perm m.numbers in
    record {
      heads_are = record {
        heap = (pops m.heads_are.heap).0;
        once = popped_once h old new perm m.heads_are.once;
        admitted = (all_permuted (λ x. admits x.entry) old (h ∷ new) perm m.heads_are.admitted).1;
      };
      numbers = numbers.1;
      due_is = (numbers.0, popped_none h old new perm m.heads_are.once);
    }

pub admits_popped : {R : Type 0} (admits : Entry → Type 0) (runs : List R) (h : Head) (old new : List Head) (due : Option ℕ) → IsMerging admits runs old due → IsPermutation old (h ∷ new) → admits h.entry
admits_popped admits runs h old new due m perm = (all_permuted (λ x. admits x.entry) old (h ∷ new) perm m.heads_are.admitted).0

module _ {R : Type 0} (entries : R → Folder → List Entry) (place : R → Folder → ℕ) (keeps : R → Folder → Type 0) (f : Folder) where
  -- the least entry in hand is the first of what is left
  pub popped_place : (admits : Entry → Type 0) (runs : List R) (h : Head) (old new : List Head) (due : Option ℕ) → IsMerging admits runs old due → due ≡ None → IsPermutation old (h ∷ new) → PopsGreatest head_cmp old h new
      → HasPlace entries place keeps (record { runs = runs; heads = old; due = due }) f
      → HasPlace entries place keeps (record { runs = runs; heads = new; due = Some h.run }) f
      × (rest entries place (record { runs = runs; heads = old; due = due }) f ≡ h.entry ∷ rest entries place (record { runs = runs; heads = new; due = Some h.run }) f)
  popped_place admits runs h old new due m none perm pops at =
      let once = m.heads_are.once in
      let numbers = all_permuted (λ x. x.run < length runs) old (h ∷ new) perm m.numbers in
      let ready : AllNumbered (λ k r. IsReady (behind entries place f r) old None k) 0 runs = subst (λ d. AllNumbered (λ k r. IsReady (behind entries place f r) old d k) 0 runs) none at.ready in (
        record { kept = at.kept; ready = ready_taken (behind entries place f) h old new 0 runs (popped_other h old new perm once) (popped_own h old new perm once) (popped_none h old new perm once) ready },
        takes_least (behind entries place f) h old new 0 runs (omega arith) (omega (arith, numbers.0)) (pops m.heads_are.heap).1 (popped_other h old new perm once) (popped_own h old new perm once) (popped_none h old new perm once) ready,
      )

  -- with no entry in hand nothing is left
  pub empty_place : (runs : List R) (heads : List Head) (due : Option ℕ) → heads ≡ [] → due ≡ None → HasPlace entries place keeps (record { runs = runs; heads = heads; due = due }) f
      → rest entries place (record { runs = runs; heads = heads; due = due }) f ≡ []
  empty_place runs heads due empty none at =
      ap (λ hs. merged (rests (behind entries place f) hs 0 runs)) empty
      ∙ nothing_left (behind entries place f) 0 runs
      (subst (λ d. AllNumbered (λ k r. IsReady (behind entries place f r) [] d k) 0 runs) none (subst (λ hs. AllNumbered (λ k r. IsReady (behind entries place f r) hs due k) 0 runs) empty at.ready))

  pub sought_place : (from : Key) (heads : List Head) (runs : List R) → ((r : R) → IsAscending (entries r f)) → AllByRecursion (λ r. keeps r f) runs → AllNumbered (IsSought entries place f from heads) 0 runs
      → HasPlace entries place keeps (record { runs = runs; heads = heads; due = None }) f
  sought_place from heads runs up kept sought = record { kept = kept; ready = sought_ready entries place keeps f from heads 0 runs up sought }

  pub sought_rest : (from : Key) (heads : List Head) (runs : List R) → ((r : R) → IsAscending (entries r f)) → AllNumbered (IsSought entries place f from heads) 0 runs
      → rest entries place (record { runs = runs; heads = heads; due = None }) f ≡ from_on from (merged (map (λ r. entries r f) runs))
  sought_rest from heads runs up sought = ap merged (sought_rests entries place keeps f from heads 0 runs up sought) ∙ merged_from from (map (λ r. entries r f) runs)

pub union_same : {R : Type 0} (entries : R → Folder → List Entry) (reads : R → Name → Type 0) (is_outside : R → Folder → Name → Type 0) (m : Merging R) (old new : List R) (f : Folder) → old ≡ m.runs
    → AllZip (KeepsRun entries reads is_outside) old new → merged (map (λ r. entries r f) new) ≡ union entries m f
union_same entries reads is_outside m old new f is zip =
    ap merged (zip_map (KeepsRun entries reads is_outside) (λ r. entries r f) (λ x y k. k.same_list f) old new zip) ∙ ap (λ runs. merged (map (λ r. entries r f) runs)) is

-- what holds of the entries of each run holds of those of all runs
pub union_all : {R : Type 0} (P : Entry → Type 0) (entries : R → Folder → List Entry) (f : Folder) → ((r : R) → AllByRecursion P (entries r f)) → (runs : List R) → AllByRecursion P (merged (map (λ r. entries r f) runs))
union_all {R} P entries f each runs = all_in_order P (flat_map (λ es. es) (map (λ r. entries r f) runs)) (all runs)
  where
    all : (rs : List R) → AllByRecursion P (flat_map (λ es. es) (map (λ r. entries r f) rs))
    all [] = tt
    all (r ∷ rs) = all_append P (entries r f) (flat_map (λ es. es) (map (λ x. entries x f) rs)) (each r) (all rs)
