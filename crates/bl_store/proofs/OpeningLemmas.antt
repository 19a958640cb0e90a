-- A store begins on a folder that was opened.
use Rattle.std.proofs.Common.{◌≡◌, inl, inr, ℕ, List, [], ◌∷◌, length, drop, refl, sym, ◌∙◌, ap, subst, arith, Option, None, Some, IsSome, Result, Ok, Err}
use Rattle.std.specs.List.{AllByRecursion}
use Rattle.std.specs.Option.{option_map}
use Rattle.bl_site.specs.Disk.{Disk as DiskSpec, File, Folder, Name}
use Rattle.bl_names.specs.Names.{manifest_name}
use Rattle.bl_entry.specs.Records.{LastIsCounted}
use Rattle.bl_entry.specs.Revisions.{Map}
use Rattle.bl_entry.specs.Written.{entries_of}
use Rattle.bl_entry.specs.declared.key.Entry.{Entry}
use Rattle.bl_memtab.specs.Filled.{Holds, NoneIsHeld}
use Rattle.bl_build.specs.Restoring.{Restored}
use Rattle.bl_build.specs.Snapshots.{snapshot}
use Rattle.bl_wal.specs.Held.{Batches}
use Rattle.bl_wal.specs.Laws.{LogsAreRead}
use Rattle.bl_wal.specs.LogFile.{LogFile}
use Rattle.bl_folder.specs.Flushes.{IsBelow}
use Rattle.bl_folder.specs.Fronts.{last_after}
use Rattle.bl_folder.specs.Memories.{IsInBounds}
use Rattle.bl_open.proofs.CutLemmas.{last_is}
use Rattle.bl_open.specs.Beginning.{IsInPlace, IsOpened}
use Rattle.bl_open.specs.Options.{Words}
use Rattle.bl_open.specs.Recovering.{AnswersAsRefused as OpeningAnswers, IsRefusal}
use Rattle.bl_open.specs.Steady.{Steady}
use Rattle.bl_open.specs.SteadyCalls.{begun}
use Rattle.bl_open.specs.Synced.{AreFilesBelow, as_synced}
use Rattle.bl_open.specs.declared.error.OpenErr.{OpenErr}
use Rattle.bl_open.specs.declared.error.OpenErr.TheVariants as opening
use Rattle.bl_store.specs.Causes.{of_opening}
use Rattle.bl_store.specs.Held.{begun_with, maps_of}
use Rattle.bl_store.specs.Opening.{AnswersAsRefused, IsBegun, opened_of}
use Rattle.bl_store.specs.Standing.{HasWaiting, IsThere, StandsFor}
use Rattle.bl_store.specs.Stored.{Stored}
use Rattle.bl_store.proofs.SyncedLemmas.{below_more}
use Rattle.bl_store.specs.declared.error.StoreErr.{StoreErr}
use Rattle.bl_store.specs.declared.error.StoreErr.TheVariants.{Disk, OutOfMemory, Corrupt, Full, NoSnapshot, NoCursor, Many, Broken, Differ}

none_after : (last : ℕ) → last_after last [] ≡ last
none_after last = omega arith

-- the store stands for the map that was found
module _ (names : List Name) (m : Map) (store : Stored) (disk : DiskSpec) (b : IsBegun store) (place : IsInPlace (opened_of store) disk) (o : IsOpened (maps_of (begun_with m)) (opened_of store) (as_synced names disk)) where
  abbrev s : Steady
  s = begun store.manifest (snapshot store.version store.standing ∷ []) store.standing.log_number o.holding 0

  last : LogsAreRead → LastIsCounted → s.holding.last ≡ store.last
  last read counted =
      last_is read counted (maps_of (begun_with m)) s (as_synced names disk) o.steady.backed
      ∙ ap (last_after s.holding.live.standing.last_sequence) o.batches
      ∙ none_after s.holding.live.standing.last_sequence
      ∙ ap (λ (r : Restored). r.standing.last_sequence) o.live
      ∙ sym b.last

  memory : NoneIsHeld → Holds store.memory (entries_of (drop 0 s.holding.batches)) store.last
  memory none =
      subst (λ (es : List Entry). Holds es (entries_of (drop 0 s.holding.batches)) store.last) (sym b.memory)
      (subst (λ (bs : Batches). Holds [] (entries_of bs) store.last) (sym o.batches) (none store.last))

  pub opened_stands : LogsAreRead → LastIsCounted → NoneIsHeld → AreFilesBelow store.manifest.number names → StandsFor names (begun_with m) store disk
  opened_stands read counted none found =
      let none_yet : length o.holding.batches ≡ 0 = ap (λ (bs : Batches). length bs) o.batches in
      let number : store.log.number ≡ store.standing.log_number = ap (λ (l : LogFile). l.number) b.log in
      let above = place.numbers.log in
      let next = place.numbers.next in
      let is = b.next in record {
        steady = s;
        is_steady = o.steady;
        carries = record {
          live = o.live;
          manifest = refl;
          log = sym b.log;
          last = last read counted;
          waiting = subst (HasWaiting s) (sym b.waiting) refl;
          memory = memory none;
          fit = subst (AllByRecursion IsInBounds) (sym o.batches) tt;
          ahead = record {
            version = subst (λ n. IsBelow n store.version) (sym is) place.numbers.version;
            manifest = omega (arith, above, next, is);
            log = omega (arith, number, next, is);
          };
        };
        writes = omega (arith, none_yet);
        durable = omega arith;
        found = below_more store.manifest.number store.next names (omega (arith, above, next, is)) found;
      }

-- the files that it writes are there
there_of : (o : Option File) (bytes : List ℕ) → option_map (λ (x : File). x.read) o ≡ Some bytes → IsSome o
there_of None bytes e = cc e
there_of (Some x) bytes e = refl

pub opened_there : (store : Stored) (disk : DiskSpec) → IsInPlace (opened_of store) disk → IsThere store disk
opened_there store disk place = let live = place.installed.is_live in record {
  manifest = there_of (disk (manifest_name store.manifest.number)) live.bytes live.there;
  log = subst IsSome (sym place.log.there) refl;
}

-- ---- what an opening answers

back : StoreErr → OpenErr
back Disk = opening.Disk
back OutOfMemory = opening.OutOfMemory
back (Corrupt name place) = opening.Corrupt name place
back (Full next) = opening.Full next
back (NoSnapshot number) = opening.Disk
back (NoCursor number) = opening.Disk
back (Many count) = opening.Disk
back Broken = opening.Disk
back (Differ option stored asked) = opening.Differ option stored asked

back_is : (e : OpenErr) → back (of_opening e) ≡ e
unfolding back
back_is opening.Disk = refl
back_is (opening.Corrupt name place) = refl
back_is (opening.Full next) = refl
back_is (opening.Differ option stored asked) = refl
back_is opening.OutOfMemory = refl

-- it is told by what is answered of it
pub same_answer : (a b : OpenErr) → of_opening a ≡ of_opening b → a ≡ b
same_answer a b same = sym (back_is a) ∙ ap back same ∙ back_is b

abbrev failed : (T : Type 0) → StoreErr → Result T StoreErr
failed T e = Err e

err_of : {T : Type 0} (a b : StoreErr) → failed T a ≡ Err b → a ≡ b
err_of a b same = cc same

module _ {T U : Type 0} (folder : Folder) (words : Words) where
  pub answers_ok : (x : T) (y : U) → OpeningAnswers folder words (Ok x) → AnswersAsRefused folder words (Ok y)
  answers_ok x y a = record { only = λ e is refusal. cc is; due = λ e refused. a.due e refused }

  pub answers_err : (error : OpenErr) (e : StoreErr) → e ≡ of_opening error → OpeningAnswers {T = T} folder words (Err error) → AnswersAsRefused {T = U} folder words (Err e)
  answers_err error e told a = record {
    only = λ f is refusal. a.only f (ap Err (same_answer error f (sym told ∙ err_of e (of_opening f) is))) refusal;
    due = λ f refused. elim (a.due f refused) [
      | inl same ↦ inl (told ∙ ap of_opening same)
      | inr other ↦ elim other [
        | inl disk ↦ inr (inl (told ∙ ap of_opening disk))
        | inr memory ↦ inr (inr (told ∙ ap of_opening memory))
      ]
    ];
  }

-- where the folder reads as before behind a refusal, it does so behind what is answered of it
pub same_err : {T : Type 0} {P : Type 0} (error : OpenErr) (e : StoreErr) → e ≡ of_opening error → (IsRefusal error → P) → (f : OpenErr) → IsRefusal f → failed T e ≡ Err (of_opening f) → P
same_err error e told same f refusal is = same (subst IsRefusal (sym (same_answer error f (sym told ∙ err_of e (of_opening f) is))) refusal)
