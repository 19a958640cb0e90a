-- What a store gives readers once some operations of a batch are in its memory that are not accepted.
use Rattle.std.proofs.Common.{◌≡◌, ◌+◌, ◌<◌, ◌≤◌, ◌^◌, false, List, [], ◌∷◌, ◌++◌, length, take, drop, refl, sym, subst, arith, Option, None, Some}
use Rattle.std.specs.List.{AllByRecursion}
use Rattle.std.proofs.lemmas.List.{drop-append-le, length-take, take-append-drop, take-append-le}
use Rattle.bl_site.specs.Disk.{Disk, Name, folder_of}
use Rattle.bl_entry.specs.Batches.{Batch, IsOperation}
use Rattle.bl_entry.specs.Written.{entries_of}
use Rattle.bl_entry.specs.declared.batch.Operation.{Operation}
use Rattle.bl_entry.specs.declared.key.Entry.{Entry}
use Rattle.bl_entry.proofs.ListLemmas.{all_append}
use Rattle.bl_memtab.specs.Filled.{Holds}
use Rattle.bl_out.proofs.AmongLemmas.{all_left}
use Rattle.bl_folder.specs.Flushes.{IsMemoryOf}
use Rattle.bl_folder.specs.Laws.{HoldingIsOne}
use Rattle.bl_folder.specs.Memories.{HeldIsMemory, IsInBounds}
use Rattle.bl_open.specs.SteadyLaws.{SteadyHold, SteadyStand}
use Rattle.bl_read.specs.Giving.{Gives}
use Rattle.bl_read.specs.Sound.{AreMemoriesOf, SoundFoldersGiveTheirMap}
use Rattle.bl_store.specs.Calls.{HasTaken}
use Rattle.bl_store.specs.Held.{Held, now_of}
use Rattle.bl_store.specs.Reading.{view_of, waiting_in}
use Rattle.bl_store.specs.Standing.{HasWaiting, StandsFor}
use Rattle.bl_store.specs.Stored.{IsInOrder, Stored}
use Rattle.bl_store.specs.declared.store.Waiting.{Waiting}
use Rattle.bl_store.proofs.AppendLemmas.{entries_join}
use Rattle.bl_store.proofs.ReadLemmas.{gives_with}

module _ (one : HoldingIsOne) (is_memory : HeldIsMemory) (sound : SoundFoldersGiveTheirMap) (hold : SteadyHold) (stand : SteadyStand) (names : List Name) (held : Held) (store : Stored) (disk : Disk)
    (order : IsInOrder store) (unbroken : store.broken ≡ false) (t : StandsFor names held store disk) (w : List Operation) (fit : AllByRecursion IsOperation w) (room : store.last + length w < 2 ^ 56)
    (memory : List Entry) (taken : HasTaken w store.last store.memory memory) where
  front : List Operation
  front = take taken.count w

  b : Batch
  b = record { first = store.last + 1; operations = take taken.count w }

  bs : List Batch
  bs = t.steady.holding.batches

  within : t.steady.below ≤ length t.steady.holding.batches
  within = let count = t.is_steady.backed.count in omega (arith, count)

  in_bounds : IsInBounds b
  unfolding b
  in_bounds =
      let long = length-take taken.count w in
      record {
        operations = all_left IsOperation (take taken.count w) (drop taken.count w) (subst (AllByRecursion IsOperation) (sym (take-append-drop taken.count w)) fit);
        sequences = λ some. omega (arith, room, long);
      }

  of : IsMemoryOf (drop t.steady.below (t.steady.holding.batches ++ b ∷ [])) memory
  unfolding b
  of =
      let own : List Batch = drop t.steady.below t.steady.holding.batches in
      subst (λ cs. IsMemoryOf cs memory) (sym (drop-append-le t.steady.below t.steady.holding.batches (b ∷ []) within))
      (is_memory (own ++ b ∷ []) memory (store.last + length (take taken.count w)) (all_append IsInBounds own (b ∷ []) t.carries.fit (in_bounds, tt))
      (subst (λ es. Holds memory es (store.last + length (take taken.count w))) (sym (entries_join own b)) (taken.holds (entries_of own) t.carries.memory)))

  memories : (waiting : Option Waiting) → HasWaiting t.steady waiting → AreMemoriesOf (t.steady.holding.batches ++ b ∷ []) (waiting_in waiting) memory
  memories None none = subst (λ n. IsMemoryOf (drop n (t.steady.holding.batches ++ b ∷ [])) memory) none of
  memories (Some x) has = (t.steady.below, subst (λ cs. IsMemoryOf cs x.memory) (sym (take-append-le t.steady.below t.steady.holding.batches (b ∷ []) within)) has.0, of)

  pub partly_gives : Gives (folder_of disk) (view_of (record store { memory = memory })) store.last (now_of held)
  unfolding b
  partly_gives = gives_with one sound hold stand names held store disk order unbroken t (b ∷ []) (waiting_in store.waiting) memory (refl, tt) (memories store.waiting t.carries.waiting)
