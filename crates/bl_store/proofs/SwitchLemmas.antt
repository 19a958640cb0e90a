-- The next log is made, and the memory waits.
use Rattle.std.proofs.Common.{◌≡◌, inl, inr, ℕ, ◌+◌, ◌<◌, List, [], ◌∷◌, length, drop, true, false, refl, sym, ◌∙◌, ap, subst, arith, None}
use Rattle.std.specs.List.{AllByRecursion}
use Rattle.bl_site.specs.Disk.{Cut, Disk, IsCut, Name}
use Rattle.bl_site.specs.Calls.{Creates, DoneOrNot}
use Rattle.bl_names.specs.declared.name.FileName.TheVariants.{Log}
use Rattle.bl_names.specs.Names.{IsNumber, NamesOne}
use Rattle.bl_entry.specs.Written.{entries_of}
use Rattle.bl_entry.specs.Entries.{IsProper}
use Rattle.bl_entry.specs.declared.key.Entry.{Entry}
use Rattle.bl_out.specs.Written.{IsPlainKind}
use Rattle.bl_flush.specs.Jobs.{ArePutsAndDeletions}
use Rattle.bl_open.proofs.FrameLemmas.{all_both}
use Rattle.bl_open.specs.Replaying.{IsFilled}
use Rattle.bl_memtab.specs.Filled.{Holds, NoneIsHeld}
use Rattle.bl_records.proofs.HeldLemmas.{within_of}
use Rattle.bl_wal.specs.Held.{Batches, HoldsBatches, record_of}
use Rattle.bl_wal.specs.LogFile.{LogFile, log_name, new_log}
use Rattle.bl_wal.specs.Laws.{LogsAreRead}
use Rattle.bl_entry.specs.Records.{LastIsCounted}
use Rattle.bl_folder.specs.Flushes.{IsMemoryOf}
use Rattle.bl_folder.specs.Fronts.{last_after}
use Rattle.bl_folder.specs.Memories.{HeldIsMemory, IsInBounds}
use Rattle.bl_folder.specs.Settled.{IsSettled}
use Rattle.bl_manifest.specs.ManifestFile.{ManifestFile}
use Rattle.bl_open.proofs.CutLemmas.{last_is}
use Rattle.bl_open.specs.Steady.{IsSteady, Maps, Steady}
use Rattle.bl_open.specs.SteadyCalls.{switched as switched_steady}
use Rattle.bl_open.specs.SteadyCuts.{LeavesMap}
use Rattle.bl_open.specs.SteadyLaws.{CutsOfSteady, NewLogsAreQuiet, QuietKeepsSteady, SteadyAreSettled, SwitchesKeepSteady}
use Rattle.bl_store.specs.Stored.{Stored}
use Rattle.bl_store.specs.Switching.{switched, undrawn}
use Rattle.bl_open.specs.Synced.{as_synced}
use Rattle.bl_store.specs.Held.{Held, all_durable, maps_of}
use Rattle.bl_store.specs.Standing.{HasWaiting, StandsFor}
use Rattle.bl_store.proofs.MomentLemmas.{cut_of, settled_of}
use Rattle.bl_store.proofs.SyncedLemmas.{below_more, creates_synced}
use Rattle.bl_store.proofs.HeldLemmas.{leaves_within, take_all}
use Rattle.bl_store.proofs.LogLemmas.{log_synced}
use Rattle.bl_store.proofs.NumberLemmas.{below_next}

-- a memory that is filled has proper puts and deletions
pub plain_of : HeldIsMemory → (memory : List Entry) (last : ℕ) → IsFilled memory last → ArePutsAndDeletions memory
plain_of law memory last f =
    let m = law f.batches memory last f.fit f.holds in
    all_both IsProper (λ e. IsPlainKind e.key.kind) (λ e. IsProper e × IsPlainKind e.key.kind) memory (λ e proper plain. (proper, plain)) m.proper m.plain

pub true_false : true ≡ false → ⊥
true_false e = cc e

drop_all : {A : Type 0} (xs : List A) → drop (length xs) xs ≡ []
drop_all [] = refl
drop_all (x ∷ xs) = drop_all xs

-- a store all of whose writes are durable stood before the number was drawn
module _ (one : NamesOne) (names : List Name) (held : Held) (number : ℕ) (store : Stored) (old : Disk) (t : StandsFor names (all_durable held) (undrawn number store) old) where
  abbrev s : Steady
  s = t.steady

  abbrev maps : Maps
  maps = maps_of held

  above : s.log.number < number
  above = let less = t.carries.ahead.log in let same : s.log.number ≡ store.log.number = ap (λ (l : LogFile). l.number) t.carries.log in omega (arith, less, same)

  all_synced : s.synced ≡ length s.own
  all_synced =
      let most = within_of record_of s.own s.synced t.is_steady.backed.in_use.within in
      let least = t.durable in let writes = t.writes in let count = t.is_steady.backed.count in
      omega (arith, most, least, writes, count)

  module _ (new : Disk) (is : IsNumber number) (made : Creates (log_name number) old new) where
    made_synced : Creates (log_name number) (as_synced names old) (as_synced names new)
    made_synced = creates_synced one number names old new (Log number) t.found is tt made

    -- the log in use stays so,
    pub still_steady : NewLogsAreQuiet → QuietKeepsSteady → IsSteady maps s (as_synced names new)
    still_steady quiet keeps = keeps maps s (as_synced names old) (as_synced names new) t.is_steady (quiet maps s number (as_synced names old) (as_synced names new) t.is_steady is above made_synced)

    -- or the next one is in use
    module _ (law : SwitchesKeepSteady) (usable : store.log.failed ≡ false) (empty : HoldsBatches new (new_log number) [] 0) where
      now_steady : IsSteady maps (switched_steady s number) (as_synced names new)
      now_steady =
          law maps s number (as_synced names old) (as_synced names new) t.is_steady (ap (λ (l : LogFile). l.failed) t.carries.log ∙ usable) all_synced is above made_synced
          (log_synced one number names new (new_log number) [] 0 t.found is empty)

      pub switch_stands : LogsAreRead → LastIsCounted → HeldIsMemory → NoneIsHeld → store.waiting ≡ None → StandsFor names (all_durable held) (switched number store) new
      switch_stands read counted is_memory none waits =
          let c = t.carries in
          let batches = s.holding.batches in
          let nothing_below : s.below ≡ 0 = subst (HasWaiting s) waits c.waiting in
          let all : drop s.below batches ≡ batches = ap (λ n. drop n batches) nothing_below in
          let memory : IsMemoryOf batches store.memory = is_memory batches store.memory store.last (subst (AllByRecursion IsInBounds) all c.fit) (subst (λ (bs : Batches). Holds store.memory (entries_of bs) store.last) all c.memory) in
          let last : s.holding.last ≡ last_after s.holding.live.standing.last_sequence batches = last_is read counted maps s (as_synced names old) t.is_steady.backed in
          let writes = t.writes in
          record {
            steady = switched_steady s number;
            is_steady = now_steady;
            carries = record {
              live = c.live;
              manifest = c.manifest;
              log = refl;
              last = c.last;
              waiting = (subst (λ (bs : Batches). IsMemoryOf bs store.memory) (sym (take_all batches)) memory, sym c.last ∙ last ∙ ap (last_after s.holding.live.standing.last_sequence) (sym (take_all batches)), refl);
              memory = subst (λ (bs : Batches). Holds [] (entries_of bs) store.last) (sym (drop_all batches)) (none store.last);
              fit = subst (AllByRecursion IsInBounds) (sym (drop_all batches)) tt;
              ahead = record {
                version = below_next number store.version c.ahead.version;
                manifest = (let less = c.ahead.manifest in omega (arith, less));
                log = omega arith;
              };
            };
            writes = writes;
            durable = omega (arith, writes);
            found = below_more number (number + 1) names (omega arith) t.found;
          }

-- where tables and blob files are synced, a cut while the log is made leaves the last map, and the disk is settled
module _ (one : NamesOne) (held : Held) (number : ℕ) (store : Stored) (old : Disk) (t : StandsFor [] (all_durable held) (undrawn number store) old) (quiet : NewLogsAreQuiet) (keeps : QuietKeepsSteady) (new : Disk) (is : IsNumber number) where
  pub cut_making : Creates (log_name number) old new → CutsOfSteady → (told : List ℕ) (c : Cut) → IsCut new told c → LeavesMap (maps_of held) (length held.writes) (length held.writes) told c
  cut_making made cuts told c cut =
      let writes = t.writes in let durable_ = t.durable in
      leaves_within (maps_of held) _ (length held.writes) _ (length held.writes) told c durable_ (omega (arith, writes))
      (cuts (maps_of held) t.steady new told c (still_steady one [] held number store old t new is made quiet keeps) cut)

  pub settled_making : Creates (log_name number) old new → SteadyAreSettled → store.manifest.failed ≡ false → IsSettled new
  settled_making made settled usable =
      settled (maps_of held) t.steady new (still_steady one [] held number store old t new is made quiet keeps) (ap (λ (m : ManifestFile). m.failed) t.carries.manifest ∙ usable)

  -- whether it is made or not
  pub cut_either : (either : DoneOrNot (Creates (log_name number)) old new) → CutsOfSteady → (told : List ℕ) (c : Cut) → IsCut new told c → LeavesMap (maps_of held) (length held.writes) (length held.writes) told c
  cut_either (inl same) cuts told c cut = cut_of cuts (all_durable held) (undrawn number store) old told c t (subst (λ (d : Disk). IsCut d told c) same cut)
  cut_either (inr made) cuts told c cut = cut_making made cuts told c cut

  pub settled_either : (either : DoneOrNot (Creates (log_name number)) old new) → SteadyAreSettled → store.manifest.failed ≡ false → IsSettled new
  settled_either (inl same) settled usable = subst IsSettled (sym same) (settled_of settled (all_durable held) (undrawn number store) old t usable)
  settled_either (inr made) settled usable = settled_making made settled usable
