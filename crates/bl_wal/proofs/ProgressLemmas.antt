-- A log that is read batch by batch.
use Rattle.std.proofs.Common.{◌≡◌, ◌⊎◌, inl, inr, ℕ, List, [], ◌∷◌, ◌++◌, map, Option, Some, None, sym, ◌∙◌, ap, subst, append-nil}
use Rattle.std.proofs.lemmas.Grind.{flat_map-append}
use Rattle.std.proofs.lemmas.List.{map-append}
use Rattle.std.specs.Prelude.{option_and_then}
use Rattle.bl_site.specs.Disk.{Folder}
use Rattle.bl_log.specs.Log.{records, placed_records}
use Rattle.bl_log.specs.declared.cause.EndCause.{EndCause}
use Rattle.bl_records.specs.FileReading.{FileReading, HasFound, FindsNext, EndsBehind as FileEnds}
use Rattle.bl_entry.specs.Batches.{Batch}
use Rattle.bl_entry.specs.Records.{batches_of, and_batches, BatchesJoin}
use Rattle.bl_entry.specs.declared.batch.Operation.{Operation}
use Rattle.bl_entry.specs.declared.key.Entry.{Entry}
use Rattle.bl_entry.specs.Written.{entries_from, entries_of}
use Rattle.bl_wal.specs.LogFile.{log_name}
use Rattle.bl_wal.specs.Held.{Batches}
use Rattle.bl_wal.specs.Replay.{Answers, BatchReading, BreaksOffAt, EndsAt, EndsBehind, HasEntries, HasReplayed, Taken}
use Rattle.bl_wal.specs.declared.batches.LogEnd.{LogEnd}
use Rattle.bl_wal.specs.declared.batches.NextBatch.{NextBatch}
use Rattle.bl_wal.specs.declared.batches.NextBatch.TheVariants.{Batch as Next, End}
use Rattle.bl_wal.specs.declared.error.WalErr.{WalErr}
use Rattle.bl_wal.specs.declared.error.WalErr.TheVariants.{OutOfMemory, Corrupt}

module _ (before : ℕ) (file : Option (List ℕ)) where
  pub begins : (reader : BatchReading) → HasFound file [] reader.records → reader.last ≡ before → HasReplayed file before [] reader
  unfolding batches_of
  begins reader has last = record { found = []; has = has; are = ap (λ n. Some ([], n)) (sym last) }

  joined : BatchesJoin → (found : List (List ℕ × ℕ)) (payload : List ℕ) (place : ℕ) (batches : Batches) (last : ℕ) (b : Batch) (last_after : ℕ)
      → batches_of (map (λ (r : List ℕ × ℕ). r.0) found) before ≡ Some (batches, last) → batches_of (payload ∷ []) last ≡ Some (b ∷ [], last_after)
      → batches_of (map (λ (r : List ℕ × ℕ). r.0) (found ++ (payload, place) ∷ [])) before ≡ Some (batches ++ b ∷ [], last_after)
  joined join found payload place batches last b last_after are one =
      ap (λ rs. batches_of rs before) (map-append (λ (r : List ℕ × ℕ). r.0) found ((payload, place) ∷ []))
      ∙ join (map (λ (r : List ℕ × ℕ). r.0) found) (payload ∷ []) before
      ∙ ap (option_and_then (λ (x : List Batch × ℕ). and_batches x.0 (batches_of (payload ∷ []) x.1))) are
      ∙ ap (and_batches batches) one

  -- a record that is taken: one batch more
  pub batch_taken : BatchesJoin → (old new : BatchReading) (payload : List ℕ) (batches : Batches) (b : Batch)
      → ((found : List (List ℕ × ℕ)) → HasFound file found old.records → FindsNext file found payload new.records) → batches_of (payload ∷ []) old.last ≡ Some (b ∷ [], new.last)
      → HasReplayed file before batches old → HasReplayed file before (batches ++ b ∷ []) new
  batch_taken join old new payload batches b finds one p =
      let f = finds p.found p.has in
      record {
        found = p.found ++ (payload, f.behind) ∷ [];
        has = f.finds;
        are = joined join p.found payload f.behind batches old.last b new.last p.are one;
      }

  -- reading ended: these are the batches of the file
  pub ended : ((bytes : List ℕ) → map (λ (found : List ℕ × ℕ). found.0) (placed_records bytes) ≡ records bytes) → (reader : BatchReading) (batches : Batches) (place : ℕ) (cause : EndCause)
      → ((found : List (List ℕ × ℕ)) → HasFound file found reader.records → FileEnds file found place cause)
      → HasReplayed file before batches reader → EndsBehind file before batches reader.last (record { place = place; cause = cause })
  ended law reader batches place cause ends p =
      let end = ends p.found p.has in
      record {
        bytes = end.bytes;
        there = end.there;
        are = ap (λ rs. batches_of rs before) (sym (law end.bytes) ∙ ap (map (λ (found : List ℕ × ℕ). found.0)) (sym end.all_found)) ∙ p.are;
        place_is = end.place_is;
        cause_is = end.cause_is;
      }

  -- a record that is not taken: there the file breaks off
  pub broke_off : (old : BatchReading) (new : FileReading) (payload : List ℕ) (batches : Batches) (place : ℕ)
      → ((found : List (List ℕ × ℕ)) → HasFound file found old.records → FindsNext file found payload new) → batches_of (payload ∷ []) old.last ≡ None
      → place ≡ new.reading.place → HasReplayed file before batches old → BreaksOffAt file before place
  broke_off old new payload batches place finds none at p =
      let f = finds p.found p.has in
      inr (
        f.bytes,
        f.there,
        record {
          passed = p.found;
          payload = payload;
          behind = f.behind;
          rest = f.rest;
          split = f.split;
          batches = batches;
          last = old.last;
          are = p.are;
          stops = none;
          place_is = at ∙ f.stands;
        },
      )

-- the entries of batches so far, and of one more
pub entries_join : (batches : Batches) (b : Batch) (entries entries_after : List Entry) → entries ≡ entries_of batches → entries_after ≡ entries ++ entries_from b.first b.operations
    → entries_after ≡ entries_of (batches ++ b ∷ [])
entries_join batches b entries entries_after are after =
    after ∙ ap (λ es. es ++ entries_from b.first b.operations) are
    ∙ ap (λ es. entries_of batches ++ es) (sym (append-nil (entries_from b.first b.operations)))
    ∙ sym (flat_map-append (λ (x : Batch). entries_from x.first x.operations) batches (b ∷ []))

-- the batches are all: the log has their entries
pub all_entries : (folder : Folder) (number before : ℕ) (batches : Batches) (last : ℕ) (end : LogEnd) (entries : List Entry) → EndsBehind (folder (log_name number)) before batches last end → entries ≡ entries_of batches
    → HasEntries folder number before entries last
all_entries folder number before batches last end entries e are =
    record { bytes = e.bytes; there = e.there; replays = record { batches = batches; are = e.are; entries_are = are } }

pub ends_at : (folder : Folder) (number before : ℕ) (batches : Batches) (last : ℕ) (end : LogEnd) → EndsBehind (folder (log_name number)) before batches last end → EndsAt folder number end
ends_at folder number before batches last end e = record { bytes = e.bytes; there = e.there; place_is = e.place_is; cause_is = e.cause_is }

pub corrupt_is : (r : WalErr) (name file : List ℕ) (at place : ℕ) → (r ≡ OutOfMemory) ⊎ (r ≡ Corrupt name at) → r ≡ Corrupt file place → (file ≡ name) × (place ≡ at)
corrupt_is r name file at place either is = elim either [
  | inl none ↦ absurd (let wrong : OutOfMemory ≡ Corrupt file place = sym none ∙ is in cc wrong)
  | inr same ↦ (let e : Corrupt name at ≡ Corrupt file place = sym same ∙ is in cc e, let e : Corrupt name at ≡ Corrupt file place = sym same ∙ is in cc e)
]

pub taken_some : (o : Option (ℕ × List Operation)) (first : ℕ) (operations : List Operation) (bytes payload : List ℕ) (last last_after : ℕ) → o ≡ Some (first, operations) → bytes ≡ payload
    → Taken o bytes last last_after → Taken (Some (first, operations)) payload last last_after
taken_some o first operations bytes payload last last_after eo eb t =
    let P : Option (ℕ × List Operation) → Type 0 = λ x. Taken x bytes last last_after in
    let Q : List ℕ → Type 0 = λ b. Taken (Some (first, operations)) b last last_after in
    subst Q eb (subst P eo t)

pub taken_none : (o : Option (ℕ × List Operation)) (bytes payload : List ℕ) (last last_after : ℕ) → o ≡ None → bytes ≡ payload
    → Taken o bytes last last_after → batches_of (payload ∷ []) last ≡ None
taken_none o bytes payload last last_after eo eb t =
    let P : Option (ℕ × List Operation) → Type 0 = λ x. Taken x bytes last last_after in
    let Q : List ℕ → Type 0 = λ b. Taken None b last last_after in
    subst Q eb (subst P eo t)

-- of this file a reader has read some batches, and these are their entries
pub record Progress (before : ℕ) (file : Option (List ℕ)) (reader : BatchReading) (entries : List Entry) : Type 0 where
  pub batches : Batches
  pub has : HasReplayed file before batches reader
  pub entries_are : entries ≡ entries_of batches

-- the file that is read, where the folder is as it was
pub same_file : (now folder : Folder) (name number : List ℕ) → now ≡ folder → name ≡ number → now name ≡ folder number
same_file now folder name number e n = ap (λ (f : Folder). f name) e ∙ ap folder n

-- what a reader answered behind these batches
abbrev pub AnswersOf : NextBatch → Option (List ℕ) → BatchReading → BatchReading → Type 0
AnswersOf next file old new = (before : ℕ) (batches : Batches) → HasReplayed file before batches old → Answers next file before batches new

pub one_more : (next : NextBatch) (first : ℕ) (operations : List Operation) (there file : Option (List ℕ)) (before : ℕ) (batches : Batches) (old new : BatchReading) → next ≡ Next first operations → there ≡ file → AnswersOf next there old new
    → HasReplayed file before batches old → HasReplayed file before (batches ++ record { first = first; operations = operations } ∷ []) new
one_more next first operations there file before batches old new is same answers =
    let P : NextBatch → Type 0 = λ n. AnswersOf n there old new in
    let Q : Option (List ℕ) → Type 0 = λ f. AnswersOf (Next first operations) f old new in
    subst Q same (subst P is answers) before batches

pub ends_behind : (next : NextBatch) (end : LogEnd) (there file : Option (List ℕ)) (before : ℕ) (batches : Batches) (old new : BatchReading) → next ≡ End end → there ≡ file → AnswersOf next there old new
    → HasReplayed file before batches old → EndsBehind file before batches new.last end
ends_behind next end there file before batches old new is same answers =
    let P : NextBatch → Type 0 = λ n. AnswersOf n there old new in
    let Q : Option (List ℕ) → Type 0 = λ f. AnswersOf (End end) f old new in
    subst Q same (subst P is answers) before batches
