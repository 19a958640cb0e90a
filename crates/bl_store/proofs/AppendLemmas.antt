-- A batch is appended to the log in use of a store, and goes into its memory.
use Rattle.std.proofs.Common.{◌≡◌, ℕ, ◌+◌, ◌≤◌, List, [], ◌∷◌, ◌++◌, length, take, drop, false, refl, sym, ◌∙◌, ap, subst, arith, length-append, append-nil, Option, None, Some}
use Rattle.std.proofs.lemmas.Grind.{flat_map-append}
use Rattle.std.proofs.lemmas.List.{drop-append-le, take-append-le}
use Rattle.std.proofs.lemmas.List.Concat.{flat_map-cons}
use Rattle.std.specs.List.{AllByRecursion}
use Rattle.bl_site.specs.Disk.{Cut, Disk, IsCut, Name}
use Rattle.bl_names.specs.Names.{IsNumber, NamesOne}
use Rattle.bl_entry.specs.Batches.{Batch}
use Rattle.bl_entry.specs.Written.{entries_from, entries_of}
use Rattle.bl_entry.specs.declared.batch.Operation.{Operation}
use Rattle.bl_entry.specs.declared.key.Entry.{Entry}
use Rattle.bl_entry.proofs.ListLemmas.{all_append}
use Rattle.bl_memtab.specs.Filled.{Holds}
use Rattle.bl_wal.specs.LogFile.{LogFile, log_name}
use Rattle.bl_wal.specs.Held.{HoldsBatches, IsReadBack}
use Rattle.bl_folder.specs.Flushes.{IsMemoryOf}
use Rattle.bl_folder.specs.Fronts.{last_after}
use Rattle.bl_folder.specs.Memories.{IsInBounds}
use Rattle.bl_folder.specs.Settled.{IsSettled}
use Rattle.bl_manifest.specs.ManifestFile.{ManifestFile}
use Rattle.bl_open.specs.Steady.{IsSteady, Maps, Steady, accepted}
use Rattle.bl_open.specs.SteadyCalls.{IsNextBatch, KeepsAllBut, wrote}
use Rattle.bl_open.specs.SteadyCuts.{LeavesMap}
use Rattle.bl_open.specs.SteadyLaws.{CutsOfSteady, SteadyAreSettled, WritesKeepSteady}
use Rattle.bl_open.specs.Replaying.{IsFilled}
use Rattle.bl_store.specs.Stored.{Stored}
use Rattle.bl_open.specs.Synced.{as_synced}
use Rattle.bl_store.specs.Held.{Held, maps_of, with_write}
use Rattle.bl_store.specs.Standing.{HasWaiting, StandsFor}
use Rattle.bl_store.specs.declared.store.Waiting.{Waiting}
use Rattle.bl_store.proofs.SyncedLemmas.{keeps_synced}
use Rattle.bl_store.proofs.HeldLemmas.{leaves_within, maps_more, maps_next, one_longer, steady_agrees}
use Rattle.bl_store.proofs.LogLemmas.{log_synced}

-- a batch more
pub entries_join : (bs : List Batch) (b : Batch) → entries_of (bs ++ b ∷ []) ≡ entries_of bs ++ entries_from b.first b.operations
entries_join bs b =
    flat_map-append (λ (x : Batch). entries_from x.first x.operations) bs (b ∷ [])
    ∙ ap (λ es. entries_of bs ++ es) (flat_map-cons (λ (x : Batch). entries_from x.first x.operations) b [] ∙ append-nil (entries_from b.first b.operations))

pub filled_more : (memory new : List Entry) (last : ℕ) (b : Batch) (last_after : ℕ) → IsFilled memory last → IsInBounds b
    → ((written : List Entry) → Holds memory written last → Holds new (written ++ entries_from b.first b.operations) last_after) → IsFilled new last_after
filled_more memory new last b last_after f fits more = record {
  batches = f.batches ++ b ∷ [];
  fit = all_append IsInBounds f.batches (b ∷ []) f.fit (fits, tt);
  holds = subst (λ es. Holds new es last_after) (sym (entries_join f.batches b)) (more (entries_of f.batches) f.holds);
}

-- the batch that is written next
abbrev pub next_batch : Stored → List Operation → Batch
next_batch store w = record { first = store.last + 1; operations = w }

module _ (one : NamesOne) (law : WritesKeepSteady) (names : List Name) (held : Held) (store : Stored) (old new : Disk) (t : StandsFor names held store old)
    (w : List Operation) (log : LogFile) (number : log.number ≡ store.log.number) (keeps : KeepsAllBut (log_name store.log.number) old new) (reads : IsReadBack (next_batch store w)) where
  abbrev s : Steady
  s = t.steady

  abbrev b : Batch
  b = next_batch store w

  abbrev maps : Maps
  maps = maps_of (with_write w held)

  same_number : log.number ≡ s.log.number
  same_number = number ∙ ap (λ (l : LogFile). l.number) (sym t.carries.log)

  keeps_all : KeepsAllBut (log_name s.log.number) (as_synced names old) (as_synced names new)
  keeps_all = subst (λ (l : LogFile). KeepsAllBut (log_name l.number) (as_synced names old) (as_synced names new)) (sym t.carries.log) (keeps_synced names (log_name store.log.number) old new keeps)

  is_number : IsNumber log.number
  is_number = subst IsNumber (sym same_number) t.is_steady.backed.is_number

  is_next : IsNextBatch s b
  is_next = record { first = ap (λ n. n + 1) (sym t.carries.last); reads = reads }

  was_steady : IsSteady maps s (as_synced names old)
  was_steady = let writes = t.writes in steady_agrees (maps_of held) maps s (as_synced names old) (λ n le. maps_more held w n (omega (arith, le, writes))) t.is_steady

  steps : maps (accepted s + 1) ≡ Rattle.bl_entry.specs.Revisions.after_operations w (maps (accepted s))
  steps =
      ap (λ n. maps (n + 1)) t.writes ∙ maps_next held w
      ∙ ap (Rattle.bl_entry.specs.Revisions.after_operations w) (sym (maps_more held w (length held.writes) (omega arith)) ∙ ap maps (sym t.writes))

  pub wrote_steady : HoldsBatches new log (s.own ++ b ∷ []) s.synced → IsSteady maps (wrote s b log) (as_synced names new)
  wrote_steady holds =
      law maps s b log (as_synced names old) (as_synced names new) was_steady is_next same_number keeps_all (log_synced one store.next names new log (s.own ++ b ∷ []) s.synced t.found is_number holds) steps

  within : s.below ≤ length s.holding.batches
  within = let count = t.is_steady.backed.count in omega (arith, count)

  entries_more : entries_of (drop s.below (s.holding.batches ++ b ∷ [])) ≡ entries_of (drop s.below s.holding.batches) ++ entries_from (store.last + 1) w
  entries_more =
      ap entries_of (drop-append-le s.below s.holding.batches (b ∷ []) within)
      ∙ flat_map-append (λ (x : Batch). entries_from x.first x.operations) (drop s.below s.holding.batches) (b ∷ [])
      ∙ ap (λ es. entries_of (drop s.below s.holding.batches) ++ es) (flat_map-cons (λ (x : Batch). entries_from x.first x.operations) b [] ∙ append-nil (entries_from (store.last + 1) w))

  waits : (waiting : Option Waiting) → HasWaiting s waiting → HasWaiting (wrote s b log) waiting
  waits None has = has
  waits (Some x) has =
      let same : take s.below (s.holding.batches ++ b ∷ []) ≡ take s.below s.holding.batches = take-append-le s.below s.holding.batches (b ∷ []) within in
      (subst (λ bs. IsMemoryOf bs x.memory) (sym same) has.0, has.1 ∙ ap (last_after s.holding.live.standing.last_sequence) (sym same), has.2 ∙ sym same_number)

  pub written_stands : HoldsBatches new log (s.own ++ b ∷ []) s.synced → (memory : List Entry) → IsInBounds b
      → Holds memory (entries_of (drop s.below s.holding.batches) ++ entries_from (store.last + 1) w) (store.last + length w)
      → StandsFor names (with_write w held) (record store { log = log; last = store.last + length w; memory = memory }) new
  written_stands holds memory fits fills = let c = t.carries in let writes = t.writes in let durable_ = t.durable in let longer = one_longer held w in let batches = length-append s.holding.batches (b ∷ []) in record {
    steady = wrote s b log;
    is_steady = wrote_steady holds;
    carries = record {
      live = c.live;
      manifest = c.manifest;
      log = refl;
      last = ap (λ n. n + length w) c.last;
      waiting = waits store.waiting c.waiting;
      memory = subst (λ es. Holds memory es (store.last + length w)) (sym entries_more) fills;
      fit = subst (AllByRecursion IsInBounds) (sym (drop-append-le s.below s.holding.batches (b ∷ []) within)) (all_append IsInBounds (drop s.below s.holding.batches) (b ∷ []) c.fit (fits, tt));
      ahead = record { version = c.ahead.version; manifest = c.ahead.manifest; log = (let less = c.ahead.log in omega (arith, less, number)) };
    };
    writes = omega (arith, writes, longer, batches);
    durable = omega (arith, durable_);
    found = t.found;
  }

-- where tables and blob files are synced, a cut of a disk to which a batch was appended leaves the map with it or without it, and the disk is settled
module _ (one : NamesOne) (law : WritesKeepSteady) (held : Held) (store : Stored) (old new : Disk) (t : StandsFor [] held store old)
    (w : List Operation) (log : LogFile) (number : log.number ≡ store.log.number) (keeps : KeepsAllBut (log_name store.log.number) old new) (reads : IsReadBack (next_batch store w))
    (holds : HoldsBatches new log (t.steady.own ++ next_batch store w ∷ []) t.steady.synced) where
  pub cut_wrote : CutsOfSteady → (told : List ℕ) (c : Cut) → IsCut new told c → LeavesMap (maps_of (with_write w held)) held.durable (length held.writes + 1) told c
  cut_wrote cuts told c cut =
      let writes = t.writes in
      let durable_ = t.durable in
      let batches = length-append t.steady.holding.batches (next_batch store w ∷ []) in
      leaves_within (maps_of (with_write w held)) _ held.durable _ (length held.writes + 1) told c (omega (arith, durable_)) (omega (arith, writes, batches))
      (cuts (maps_of (with_write w held)) (wrote t.steady (next_batch store w) log) new told c (wrote_steady one law [] held store old new t w log number keeps reads holds) cut)

  pub settled_wrote : SteadyAreSettled → store.manifest.failed ≡ false → IsSettled new
  settled_wrote settled usable =
      settled (maps_of (with_write w held)) (wrote t.steady (next_batch store w) log) new (wrote_steady one law [] held store old new t w log number keeps reads holds)
      (ap (λ (m : ManifestFile). m.failed) t.carries.manifest ∙ usable)
