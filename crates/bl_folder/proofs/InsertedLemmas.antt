-- A memory table that holds batches is a memory of them.
use Rattle.std.proofs.Common.{◌≡◌, ℕ, suc, ◌+◌, ◌^◌, ◌≤◌, Bool, true, false, cond, List, [], ◌∷◌, length, refl, sym, subst, arith, Option, Some, None}
use Rattle.std.specs.Prelude.{◌==◌, map, Contains, IfSome, Result, Ok, Err}
use Rattle.std.specs.List.{AllByRecursion}
use Rattle.std.specs.List.Sorted.{IsPermutation}
use Rattle.std.proofs.lemmas.List.Sorted.{Contains-permutation, IsPermutation-map, IsPermutation-sym}
use Rattle.bl_entry.specs.declared.batch.Operation.{Operation}
use Rattle.bl_entry.specs.declared.decode.BadBatch.{BadBatch}
use Rattle.bl_entry.specs.declared.key.Entry.{Entry}
use Rattle.bl_entry.specs.Batches.{Batch, IsOperation}
use Rattle.bl_entry.specs.Entries.{IsProper}
use Rattle.bl_entry.specs.Keys.{max_key, max_seq, max_value}
use Rattle.bl_entry.specs.Latest.{revision_of}
use Rattle.bl_entry.specs.Reading.{ReadsExactly, read_batch}
use Rattle.bl_entry.specs.Records.{and_batch, batch_behind, batches_of}
use Rattle.bl_entry.specs.Revisions.{Revision}
use Rattle.bl_entry.specs.Written.{EntriesAreRevisions, entries_from, entries_of, entry}
use Rattle.bl_entry.proofs.ListLemmas.{all_append}
use Rattle.bl_folder.specs.Memories.{BatchesAreInBounds, HeldIsMemory, IsInBounds}
use Rattle.bl_out.proofs.AmongLemmas.{Among, all_at, all_by, from_among, to_among}
use Rattle.bl_folder.proofs.OneLemmas.{pair_is}
use Rattle.bl_out.proofs.WrittenLemmas.{IsPlain}

-- ---- the batches of records

first_bounds : (l : ℕ) (b : Batch) (bs : List Batch) (more : Option (List Batch × ℕ)) → IsInBounds b → and_batch b more ≡ Some (bs, l)
    → ((cs : List Batch) (k : ℕ) → more ≡ Some (cs, k) → AllByRecursion IsInBounds cs) → AllByRecursion IsInBounds bs
first_bounds l b bs None fits e rest = absurd cc
first_bounds l b bs (Some x) fits e rest = subst (AllByRecursion IsInBounds) (pair_is e).0 (fits, rest x.0 x.1 refl)

next_bounds : (last l : ℕ) (bs : List Batch) (r : Result Batch BadBatch) (more : Batch → Option (List Batch × ℕ)) → ((b : Batch) → r ≡ Ok b → IsInBounds b)
    → batch_behind last r (λ b. and_batch b (more b)) ≡ Some (bs, l) → ((b : Batch) (cs : List Batch) (k : ℕ) → more b ≡ Some (cs, k) → AllByRecursion IsInBounds cs) → AllByRecursion IsInBounds bs
next_bounds last l bs (Err fault) more fits e rest = absurd cc
next_bounds last l bs (Ok b) more fits e rest = by (b.first == last + 1) e
  where
    by : (t : Bool) → cond t (and_batch b (more b)) None ≡ Some (bs, l) → AllByRecursion IsInBounds bs
    by true h = first_bounds l b bs (more b) (fits b refl) h (rest b)
    by false h = absurd cc

pub batches_are_in_bounds : ReadsExactly → BatchesAreInBounds
unfolding batches_of
batches_are_in_bounds exact [] before last batches bytes e = subst (AllByRecursion IsInBounds) (pair_is e).0 tt
batches_are_in_bounds exact (r ∷ records) before last batches bytes e =
    next_bounds before last batches (read_batch r) (λ b. batches_of records (before + length b.operations))
    (λ b is. let of = (exact r b bytes.0).0 is in record { operations = of.operations.each; sequences = of.sequences }) e
    (λ b cs k is. batches_are_in_bounds exact records (before + length b.operations) k cs bytes.1 is)

-- ---- the entries of batches

proper_at : (user : List ℕ) (seq : ℕ) (put : Option (List ℕ)) → 1 ≤ length user → length user ≤ max_key → seq ≤ max_seq → IfSome put (λ v. length v ≤ max_value) → IsProper (entry user seq put)
proper_at user seq None some no_longer fits value = record { key = record { some = some; no_longer = no_longer; seq = fits }; value = refl }
proper_at user seq (Some v) some no_longer fits value = record { key = record { some = some; no_longer = no_longer; seq = fits }; value = value }

plain_at : (user : List ℕ) (seq : ℕ) (put : Option (List ℕ)) → IsPlain (entry user seq put)
plain_at user seq None = tt
plain_at user seq (Some v) = tt

proper_from : (seq : ℕ) (os : List Operation) → AllByRecursion IsOperation os → (1 ≤ length os → seq + length os ≤ 2 ^ 56) → AllByRecursion IsProper (entries_from seq os)
unfolding entries_from
proper_from seq [] each fits = tt
proper_from seq (o ∷ os) each fits =
    let all : seq + suc (length os) ≤ 2 ^ 56 = fits (omega arith) in
    (proper_at o.key seq o.put each.0.some each.0.key (omega arith) each.0.value, proper_from (seq + 1) os each.1 (λ some. omega arith))

plain_from : (seq : ℕ) (os : List Operation) → AllByRecursion IsPlain (entries_from seq os)
unfolding entries_from
plain_from seq [] = tt
plain_from seq (o ∷ os) = (plain_at o.key seq o.put, plain_from (seq + 1) os)

proper_of : (batches : List Batch) → AllByRecursion IsInBounds batches → AllByRecursion IsProper (entries_of batches)
proper_of [] h = tt
proper_of (b ∷ bs) h = all_append IsProper (entries_from b.first b.operations) (entries_of bs) (proper_from b.first b.operations h.0.operations h.0.sequences) (proper_of bs h.1)

plain_of : (batches : List Batch) → AllByRecursion IsPlain (entries_of batches)
plain_of [] = tt
plain_of (b ∷ bs) = all_append IsPlain (entries_from b.first b.operations) (entries_of bs) (plain_from b.first b.operations) (plain_of bs)

-- ---- the memory

pub held_is_memory : EntriesAreRevisions → HeldIsMemory
held_is_memory tell batches memory last fits held =
    let back : IsPermutation memory (entries_of batches) = IsPermutation-sym (entries_of batches) memory held.same in
    let moved : (e : Entry) → Among e memory → Among e (entries_of batches) = λ e there. to_among (entries_of batches) e (Contains-permutation memory (entries_of batches) e back (from_among memory e there)) in
    record {
      ascending = held.ascending;
      proper = all_by IsProper memory (λ e there. all_at IsProper (entries_of batches) e (proper_of batches fits) (moved e there));
      plain = all_by IsPlain memory (λ e there. all_at IsPlain (entries_of batches) e (plain_of batches) (moved e there));
      same = λ r. (
        (λ there. subst (λ (rs : List Revision). Contains rs r) (tell batches) (Contains-permutation (map revision_of memory) (map revision_of (entries_of batches)) r (IsPermutation-map revision_of memory (entries_of batches) back) there)),
        (λ there. Contains-permutation (map revision_of (entries_of batches)) (map revision_of memory) r (IsPermutation-map revision_of (entries_of batches) memory held.same) (subst (λ (rs : List Revision). Contains rs r) (sym (tell batches)) there)),
      );
    }
