-- What a cut leaves of an opening.
use Rattle.std.proofs.Common.{◌≡◌, ◌≢◌, ◌⊎◌, inl, inr, ⊎_elim, ℕ, ◌+◌, ◌^◌, ◌<◌, ◌≤◌, false, List, [], ◌++◌, length, take, Option, None, Some, refl, sym, ◌∙◌, ap, subst, arith, append-nil}
use Rattle.std.proofs.lemmas.Bool.{cases_lt}
use Rattle.std.proofs.lemmas.List.{take_all}
use Rattle.std.specs.Prelude.{max}
use Rattle.std.specs.Option.{option_map}
use Rattle.bl_site.specs.Disk.{Name, File, Folder, Disk, Cut, IsLeft, IsImage, MayLeave, folder_of}
use Rattle.bl_site.specs.Calls.{Creates, MayDuring, Elapses, LeavesOnly}
use Rattle.bl_site.specs.declared.site.Site.{Ghosts}
use Rattle.bl_site.proofs.Moments.{goes_on, widened, cut_of_only}
use Rattle.bl_site.proofs.Images.{left_at, left_but, whole_remnant}
use Rattle.bl_names.specs.Names.{IsNumber, NamesOne}
use Rattle.bl_entry.specs.Batches.{Batch}
use Rattle.bl_entry.specs.Revisions.{Map}
use Rattle.bl_wal.specs.LogFile.{LogFile, log_name, new_log}
use Rattle.bl_records.proofs.HeldLemmas.{within_of}
use Rattle.bl_wal.specs.Held.{record_of}
use Rattle.bl_logstore.specs.Folders.{IsNext, Stands}
use Rattle.bl_logstore.specs.Laws.{BatchesAreOnce, CutsStand, StoresStand}
use Rattle.bl_logstore.specs.Stored.{Stored, IsSynced, StandsOn, Makes}
use Rattle.bl_logstore.specs.Cuts.{LeavesFound, BeforeBarrier, LeavesFirst, AreReadAsWritten}
use Rattle.bl_logstore.specs.Replaying.{WasRead}
use Rattle.bl_logstore.proofs.CarryLemmas.{opens}
use Rattle.bl_logstore.proofs.CutLemmas.{CountsNow, at_end, found_then, cut_found, reads_so}
use Rattle.bl_logstore.proofs.FolderLemmas.{same_name}

-- A file was made: what was found without it.
module _ (name : Name) (before after : Disk) (folder : Folder) (made : Creates name before after) (image : IsImage after folder) where
  fronts : Option File → Option (List ℕ)
  fronts o = option_map (λ file. file.front) o

  front_left : (o : Option File) → IsLeft o (fronts o)
  unfolding fronts
  front_left None = tt
  front_left (Some file) = record { tail = []; split = sym (append-nil file.front); no_longer = omega arith }

  either : (other : Name) → (other ≡ name) ⊎ (other ≢ name) → Option (List ℕ)
  either other (inl same) = fronts (before name)
  either other (inr ne) = folder other

  pub without : Folder
  without other = either other (same_name other name)

  either_left : (other : Name) (is : (other ≡ name) ⊎ (other ≢ name)) → IsLeft (before other) (either other is)
  unfolding either
  either_left other (inl same) = subst (λ (n : Name). IsLeft (before n) (fronts (before name))) (sym same) (front_left (before name))
  either_left other (inr ne) = left_but name _ before after folder made image other ne

  either_other : (other : Name) (is : (other ≡ name) ⊎ (other ≢ name)) → other ≢ name → folder other ≡ either other is
  unfolding either
  either_other other (inl same) ne = absurd (ne same)
  either_other other (inr differs) ne = refl

  pub without_left : IsImage before without
  unfolding without
  without_left other = either_left other (same_name other name)

  pub made_on_it : Makes name without folder
  unfolding without
  made_on_it = record {
    made = let left = left_at name _ before after folder made image in left.1 ∙ ap Some (whole_remnant _ left.0 refl left.2);
    others = λ other ne. either_other other (same_name other name) ne;
  }

-- while the next log is made
pub while_made : (folder : Folder) (number : ℕ) (may_be : Disk → Type 0) (told : List ℕ) → IsNumber number → IsNext folder number
    → (c : Cut) → MayLeave (MayDuring (Creates (log_name number)) may_be) told c → BeforeBarrier folder may_be told c
while_made folder number may_be told is next c leaves =
    ⊎_elim
    (λ was. record { told_is = leaves.is_cut.told_is; found = c.folder; was = (leaves.disk, was, leaves.is_cut.image); perhaps = inl refl })
    (λ from. record {
      told_is = leaves.is_cut.told_is;
      found = without (log_name number) from.0 leaves.disk c.folder from.2 leaves.is_cut.image;
      was = (from.0, from.1, without_left (log_name number) from.0 leaves.disk c.folder from.2 leaves.is_cut.image);
      perhaps = inr (record { number = number; is_number = is; next = next; made = made_on_it (log_name number) from.0 leaves.disk c.folder from.2 leaves.is_cut.image });
    })
    leaves.possible

module _ {D : Type 0} (g : Ghosts D) where
  -- the logs were listed, synced and replayed
  pub read_before : (folder : Folder) (old new : D) → LeavesOnly g.clock g.left_since old new (LeavesFound (g.may_be old) (g.told old)) → LeavesOnly g.clock g.left_since old new (BeforeBarrier folder (g.may_be old) (g.told old))
  read_before folder old new leaves =
      widened g.clock g.left_since old new (LeavesFound (g.may_be old) (g.told old)) (BeforeBarrier folder (g.may_be old) (g.told old))
      (λ c finds. record { told_is = finds.told_is; found = c.folder; was = finds.was; perhaps = inl refl }) leaves

  barrier_then : (folder : Folder) (old mid : D) → CountsNow g mid → g.told mid ≡ g.told old → LeavesOnly g.clock g.left_since old mid (LeavesFound (g.may_be old) (g.told old))
      → (c : Cut) → BeforeBarrier folder (g.may_be mid) (g.told mid) c → BeforeBarrier folder (g.may_be old) (g.told old) c
  barrier_then folder old mid counts same first c b = record {
    told_is = b.told_is ∙ same;
    found = b.found;
    was = (found_then g old mid counts same first (cut_found b.found (g.told mid) b.was.0) (record { told_is = refl; was = b.was })).was;
    perhaps = b.perhaps;
  }

  -- and then the next log was made
  pub made_before : (folder : Folder) (number : ℕ) (old mid new : D) → CountsNow g mid → g.told mid ≡ g.told old → IsNumber number → IsNext folder number
      → LeavesOnly g.clock g.left_since old mid (LeavesFound (g.may_be old) (g.told old))
      → Elapses (g.clock mid) (g.clock new) (g.left_since mid) (g.left_since new) (MayLeave (MayDuring (Creates (log_name number)) (g.may_be mid)) (g.told mid))
      → LeavesOnly g.clock g.left_since old new (BeforeBarrier folder (g.may_be old) (g.told old))
  made_before folder number old mid new counts same is next first time =
      goes_on g.clock g.left_since old mid new (BeforeBarrier folder (g.may_be old) (g.told old)) (MayLeave (MayDuring (Creates (log_name number)) (g.may_be mid)) (g.told mid)) (read_before folder old mid first) time
      (λ c leaves. barrier_then folder old mid counts same first c (while_made folder number (g.may_be mid) (g.told mid) is next c leaves))

-- what stands reads as it was written
pub stands_reads : (log : LogFile) (older own : List Batch) (synced last : ℕ) (disk : Disk) → log.failed ≡ false → StandsOn log older own synced last disk → AreReadAsWritten disk
stands_reads log older own synced last disk whole s number file is at = elim (cases_lt number log.number) [
  | inl lt ↦ let synced_file = subst IsSynced at (s.below_synced number is lt) in sym (append-nil file.read) ∙ ap (λ (h : List ℕ). file.read ++ h) (sym synced_file.1) ∙ ap (λ (f : List ℕ). f ++ file.handed) (sym synced_file.0)
  | inr le ↦ elim (cases_lt log.number number) [
    | inl lt ↦ absurd (cc (at, s.newest number lt is.1))
    | inr ge ↦
        let same : log.number ≡ number = omega (arith, le, ge) in
        let here : Some file ≡ Some s.holds.file = sym at ∙ ap (λ (n : ℕ). disk (log_name n)) (sym same) ∙ s.holds.there in
        let P : Option File → Type 0 = reads_so in
        subst P (sym here) (s.holds.reads whole ∙ sym s.holds.all)
  ]
]

-- all batches are there
all_there : (older own batches : List Batch) (synced : ℕ) (told : List ℕ) (c : Cut) → batches ≡ older ++ own → synced ≤ length own → LeavesFirst batches [] 0 told c → LeavesFirst older own synced told c
all_there older own batches synced told c same within leaves = record {
  told_is = leaves.told_is;
  whole = leaves.whole;
  stands = λ chance.
      let s = leaves.stands chance in
      let are : batches ++ take s.0 [] ≡ older ++ take (length own) own =
      ap (λ (bs : List Batch). batches ++ bs) (take_all s.0 [] (omega arith)) ∙ append-nil batches ∙ same ∙ ap (λ (bs : List Batch). older ++ bs) (sym (take_all (length own) own (omega arith))) in
      let P : List Batch → Type 0 = λ bs. Stands c.folder bs s.3.0 in
      (length own, within, omega arith, (s.3.0, subst P are s.3.1));
}

module _ {D : Type 0} (g : Ghosts D) (stand : CutsStand)
    (old : D) (only : (other : Disk) → g.may_be old other → other ≡ g.disk old)
    (log : LogFile) (older own : List Batch) (synced last : ℕ) (on : StandsOn log older own synced last (g.disk old)) where
  -- a cut of the disk on which a store stands
  stands_here : (c : Cut) → MayLeave (g.may_be old) (g.told old) c → LeavesFirst older own synced (g.told old) c
  stands_here c leaves = stand log older own synced last (g.disk old) (g.told old) c on (cut_of_only (g.may_be old) (g.disk old) (g.told old) c only leaves)

  -- its logs were listed, synced and replayed
  pub read_stands : (new : D) → LeavesOnly g.clock g.left_since old new (MayLeave (g.may_be old) (g.told old)) → LeavesOnly g.clock g.left_since old new (LeavesFirst older own synced (g.told old))
  read_stands new leaves = widened g.clock g.left_since old new (MayLeave (g.may_be old) (g.told old)) (LeavesFirst older own synced (g.told old)) stands_here leaves

  -- and then the next log was made
  pub made_stands : NamesOne → BatchesAreOnce → StoresStand → (mid new : D) (now : Map) (last_read greatest number : ℕ) → log.failed ≡ false → CountsNow g mid → g.told mid ≡ g.told old
      → ((other : Disk) → g.may_be mid other → other ≡ g.disk mid) → WasRead (folder_of (g.disk old)) (g.disk mid) now last_read greatest → number ≡ max (greatest + 1) 2 → number < 10 ^ 15
      → LeavesOnly g.clock g.left_since old mid (MayLeave (g.may_be old) (g.told old))
      → Elapses (g.clock mid) (g.clock new) (g.left_since mid) (g.left_since new) (MayLeave (MayDuring (Creates (log_name number)) (g.may_be mid)) (g.told mid))
      → LeavesOnly g.clock g.left_since old new (LeavesFirst older own synced (g.told old))
  made_stands law are_once stores mid new now last_read greatest number whole counts same only_mid read is less first time =
      let P = LeavesFirst older own synced (g.told old) in
      let T : List ℕ → Cut → Type 0 = λ t c. LeavesFirst older own synced t c in
      let so_far = read_stands mid first in
      let store : Stored = record { log = new_log number; last = last_read; now = now; broken = false } in
      goes_on g.clock g.left_since old mid new P (MayLeave (MayDuring (Creates (log_name number)) (g.may_be mid)) (g.told mid)) so_far time
      (λ c leaves. ⊎_elim
      (λ was. at_end g old mid P counts so_far c (record { disk = leaves.disk; possible = was; is_cut = leaves.is_cut }))
      (λ from.
      let made = subst (λ (d : Disk). Creates (log_name number) d leaves.disk) (only_mid from.0 from.1) from.2 in
      let opened = opens law (folder_of (g.disk old)) (g.disk mid) leaves.disk store greatest number read is less made refl in
      let once = are_once (folder_of (g.disk old)) opened.batches (older ++ own) last_read last opened.had (stores log older own synced last (g.disk old) whole on).have in
      subst (λ (t : List ℕ). T t c) same
      (all_there older own opened.batches synced (g.told mid) c once.0 (within_of record_of own synced on.holds.within) (stand store.log opened.batches [] 0 last_read leaves.disk (g.told mid) c opened.carries.on leaves.is_cut)))
      leaves.possible)
