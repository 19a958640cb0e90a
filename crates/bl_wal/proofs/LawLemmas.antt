-- What logs of batches read as.
use Rattle.std.proofs.Common.{◌≡◌, ℕ, zero, suc, ◌+◌, nat_eq, Bool, true, false, cond, List, [], ◌∷◌, length, map, take, Option, None, Some, Result, Ok, Err, refl, sym, ◌∙◌, ap, subst}
use Rattle.std.proofs.lemmas.List.{length-map}
use Rattle.std.specs.Prelude.{option_and_then}
use Rattle.bl_entry.specs.Batches.{Batch}
use Rattle.bl_entry.specs.Reading.{read_batch}
use Rattle.bl_entry.specs.Records.{and_batch, batch_behind, batches_of, and_batches, BatchesJoin}
use Rattle.bl_entry.specs.declared.decode.BadBatch.{BadBatch}
use Rattle.bl_names.specs.declared.name.FileName.TheVariants.{Log}
use Rattle.bl_records.specs.Held.{HoldsRecords}
use Rattle.bl_records.specs.Laws.{CutFilesReadAsFronts, FilesAreRead, SyncedFilesAreLeft}
use Rattle.bl_records.proofs.HeldLemmas.{within_of}
use Rattle.bl_wal.specs.LogFile.{file_of}
use Rattle.bl_wal.specs.Held.{Batches, record_of}
use Rattle.bl_wal.specs.Laws.{CutLogsReadAsFronts, SyncedLogsAreLeft, LogsAreRead, FrontsAreRead, NextBatchIsRead}
use Rattle.bl_wal.proofs.RecordLemmas.{next_read}

map-take : {X Y : Type 0} (f : X → Y) (n : ℕ) (xs : List X) → map f (take n xs) ≡ take n (map f xs)
map-take f zero xs = refl
map-take f (suc n) [] = refl
map-take f (suc n) (x ∷ xs) = ap (λ l. f x ∷ l) (map-take f n xs)

-- ---- files of records

pub cut_reads : CutFilesReadAsFronts → CutLogsReadAsFronts
cut_reads law disk log batches synced told c number h is none =
    let r = law disk (file_of log) (Log log.number) (map record_of batches) synced told c refl h is (none.logs log.number number) in
    record {
      bytes = r.bytes;
      there = r.there;
      count = r.first.count;
      at_least = r.first.at_least;
      at_most = within_of record_of batches r.first.count r.first.at_most;
      reads = r.first.reads ∙ sym (map-take record_of r.first.count batches);
    }

pub synced_left : SyncedFilesAreLeft → SyncedLogsAreLeft
synced_left law disk log batches told c h is =
    let P : ℕ → Type 0 = λ n. HoldsRecords disk (file_of log) (map record_of batches) n in
    law disk (file_of log) (map record_of batches) told c (subst P (sym (length-map batches record_of)) h) is

pub logs_read : FilesAreRead → LogsAreRead
logs_read law batches = law (map record_of batches)

-- ---- records and batches

-- the first so many batches, whatever follows
FirstBatches : ℕ → Option (Batches × ℕ) → Batches → Type 0
FirstBatches count first batches = (between : ℕ) × (first ≡ Some (take count batches, between))

and_first : (n last : ℕ) (b : Batch) (batches : Batches) (all first : Option (Batches × ℕ)) → ((bs : Batches) (l : ℕ) → all ≡ Some (bs, l) → FirstBatches n first bs)
    → and_batch b all ≡ Some (batches, last) → FirstBatches (suc n) (and_batch b first) batches
unfolding FirstBatches
and_first n last b batches None first ih e = absurd (let wrong : None ≡ Some (batches, last) = e in cc wrong)
and_first n last b batches (Some more) first ih e =
    let same : Some (b ∷ more.0, more.1) ≡ Some (batches, last) = e in
    let pair : (b ∷ more.0, more.1) ≡ (batches, last) = cc same in
    let are : b ∷ more.0 ≡ batches = ap (λ (x : Batches × ℕ). x.0) pair in
    let f = ih more.0 more.1 refl in
    (f.0, ap (and_batch b) f.1 ∙ ap (λ bs. Some (take (suc n) bs, f.0)) are)

if_first : (t : Bool) (n last : ℕ) (b : Batch) (batches : Batches) (all first : Option (Batches × ℕ)) → ((bs : Batches) (l : ℕ) → all ≡ Some (bs, l) → FirstBatches n first bs)
    → cond t (and_batch b all) None ≡ Some (batches, last) → FirstBatches (suc n) (cond t (and_batch b first) None) batches
if_first true n last b batches all first ih e = and_first n last b batches all first ih e
if_first false n last b batches all first ih e = absurd (let wrong : None ≡ Some (batches, last) = e in cc wrong)

behind_first : (r : Result Batch BadBatch) (n before last : ℕ) (batches : Batches) (all first : Batch → Option (Batches × ℕ))
    → ((b : Batch) (bs : Batches) (l : ℕ) → all b ≡ Some (bs, l) → FirstBatches n (first b) bs)
    → batch_behind before r (λ b. and_batch b (all b)) ≡ Some (batches, last) → FirstBatches (suc n) (batch_behind before r (λ b. and_batch b (first b))) batches
behind_first (Err fault) n before last batches all first ih e = absurd (let wrong : None ≡ Some (batches, last) = e in cc wrong)
behind_first (Ok b) n before last batches all first ih e = if_first (nat_eq b.first (before + 1)) n last b batches (all b) (first b) (ih b) e

first_of : (payloads : List (List ℕ)) (before last count : ℕ) (batches : Batches) → batches_of payloads before ≡ Some (batches, last) → FirstBatches count (batches_of (take count payloads) before) batches
unfolding batches_of FirstBatches
first_of payloads before last zero batches e = (before, refl)
first_of [] before last (suc n) batches e =
    let same : Some ([], before) ≡ Some (batches, last) = e in
    let pair : ([], before) ≡ (batches, last) = cc same in
    let none : [] ≡ batches = ap (λ (x : Batches × ℕ). x.0) pair in
    (before, ap (λ bs. Some (take (suc n) bs, before)) none)
first_of (payload ∷ payloads) before last (suc n) batches e =
    behind_first (read_batch payload) n before last batches (λ b. batches_of payloads (before + length b.operations)) (λ b. batches_of (take n payloads) (before + length b.operations))
    (λ b bs l same. first_of payloads (before + length b.operations) l n bs same) e

pub fronts_read : FrontsAreRead
unfolding FirstBatches
fronts_read payloads before last count batches e = first_of payloads before last count batches e

pub next_is_read : BatchesJoin → NextBatchIsRead
next_is_read join payloads before last batches b are read first =
    join payloads (record_of b ∷ []) before
    ∙ ap (option_and_then (λ (x : Batches × ℕ). and_batches x.0 (batches_of (record_of b ∷ []) x.1))) are
    ∙ ap (and_batches batches) (next_read (record_of b) last b read first)
