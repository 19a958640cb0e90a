-- Logs that are replayed into a memory table.
use Rattle.std.proofs.Common.{◌≡◌, ◌⊎◌, inl, inr, ℕ, zero, suc, ◌+◌, ◌-◌, ◌^◌, ◌<◌, ◌≤◌, Bool, true, false, cond, List, [], ◌∷◌, ◌++◌, length, drop, get_or, refl, sym, ◌∙◌, ap, subst, arith, Option, Some, None, IsSome, append-nil, append_assoc}
use Rattle.std.specs.Prelude.{Contains, option_and_then, unwrap_or}
use Rattle.std.specs.List.{AllByRecursion}
use Rattle.std.specs.List.Sorted.{IsStrictlySortedBy}
use Rattle.std.specs.Ordering.{nat_cmp}
use Rattle.std.specs.declared.cmp.Ordering.TheVariants.{Less}
use Rattle.std.proofs.lemmas.Grind.{flat_map-append}
use Rattle.std.proofs.lemmas.List.{length_push}
use Rattle.bl_code.proofs.Basics.{nat_cmp_less}
use Rattle.bl_site.specs.Disk.{Folder, Name}
use Rattle.bl_names.specs.Names.{IsNumber}
use Rattle.bl_log.specs.Log.{records}
use Rattle.bl_edit.specs.Bounds.{is_number}
use Rattle.bl_entry.specs.declared.batch.Operation.{Operation}
use Rattle.bl_entry.specs.declared.key.Entry.{Entry}
use Rattle.bl_entry.specs.Batches.{Batch}
use Rattle.bl_entry.specs.Records.{BatchesJoin, and_batches, batches_of}
use Rattle.bl_entry.specs.Entries.{IsProper}
use Rattle.bl_entry.specs.Written.{entries_from, entries_of, entry}
use Rattle.bl_entry.proofs.ListLemmas.{all_append}
use Rattle.bl_memtab.specs.Filled.{Holds, OneMoreIsHeld}
use Rattle.bl_memtab.specs.Tables.{IsFree, with_entry}
use Rattle.bl_out.specs.Written.{IsPlainKind}
use Rattle.bl_flush.specs.Jobs.{ArePutsAndDeletions}
use Rattle.bl_wal.proofs.EntryLemmas.{no_entries, one_more}
use Rattle.bl_wal.specs.declared.batches.LogEnd.{LogEnd}
use Rattle.bl_wal.specs.declared.batches.NextBatch.{NextBatch}
use Rattle.bl_wal.specs.declared.batches.NextBatch.TheVariants.{Batch as Next, End}
use Rattle.bl_wal.specs.declared.error.WalErr.{WalErr}
use Rattle.bl_wal.specs.declared.error.WalErr.TheVariants as wal
use Rattle.bl_open.specs.Causes.{of_wal}
use Rattle.bl_open.specs.declared.error.OpenErr.TheVariants.{Corrupt}
use Rattle.bl_wal.specs.Held.{Batches}
use Rattle.bl_wal.specs.LogFile.{log_name}
use Rattle.bl_wal.specs.Replay.{BatchReading, EndsBehind, Follows, HasReplayed, IsNext, IsTorn}
use Rattle.bl_folder.proofs.Finding.{from_test}
use Rattle.bl_folder.proofs.LogLemmas.{no_record}
use Rattle.bl_folder.specs.Files.{log_bytes}
use Rattle.bl_folder.specs.Logs.{log_records}
use Rattle.bl_folder.specs.Memories.{HeldIsMemory, IsInBounds}
use Rattle.bl_open.specs.Replay.{LogsFail}
use Rattle.bl_open.specs.Replaying.{AreLogsFrom, HasReplayedLog, HasReplayedLogs, IsFilled}

-- ---- entry by entry

seq_is : (user : List ℕ) (seq : ℕ) (put : Option (List ℕ)) → (entry user seq put).key.seq ≡ seq
seq_is user seq None = refl
seq_is user seq (Some value) = refl

pub none_yet : (written : List Entry) (last : ℕ) (memory : List Entry) → Holds memory written last → Holds memory (written ++ entries_from (last + 1) []) (last + 0)
none_yet written last memory h =
    let same : last ≡ last + 0 = omega arith in
    subst (λ es. Holds memory es (last + 0)) (no_entries written (last + 1)) (subst (Holds memory written) same h)

-- the entry of one operation more is free, and joins what is held
module _ (one : OneMoreIsHeld) (last seq : ℕ) (operations : List Operation) (o : Operation) (e : Entry) (memory : List Entry) (at : seq ≡ last + length operations) (is : e ≡ entry o.key (seq + 1) o.put) where
  later : last + length operations < e.key.seq
  later = let s : e.key.seq ≡ seq + 1 = ap (λ (x : Entry). x.key.seq) is ∙ seq_is o.key (seq + 1) o.put in omega (arith, s, at)

  pub is_free : (written : List Entry) → Holds memory written (last + length operations) → IsFree e.key memory
  is_free written h = (one memory written (last + length operations) e h later).0

  pub held_on : (written memory_after : List Entry) → memory_after ≡ with_entry e memory → Holds memory (written ++ entries_from (last + 1) operations) (last + length operations)
      → Holds memory_after (written ++ entries_from (last + 1) (operations ++ o ∷ [])) (last + length (operations ++ o ∷ []))
  held_on written memory_after after h =
      let next : seq + 1 ≡ (last + 1) + length operations = omega (arith, at) in
      let s : e.key.seq ≡ seq + 1 = ap (λ (x : Entry). x.key.seq) is ∙ seq_is o.key (seq + 1) o.put in
      let long : length (operations ++ o ∷ []) ≡ length operations + 1 = length_push operations o in
      let end : e.key.seq ≡ last + length (operations ++ o ∷ []) = omega (arith, s, at, long) in
      let entries : (written ++ entries_from (last + 1) operations) ++ e ∷ [] ≡ written ++ entries_from (last + 1) (operations ++ o ∷ []) =
      append_assoc written (entries_from (last + 1) operations) (e ∷ [])
      ∙ ap (λ x. written ++ (entries_from (last + 1) operations ++ x ∷ [])) (is ∙ ap (λ n. entry o.key n o.put) next)
      ∙ ap (λ es. written ++ es) (sym (one_more operations (last + 1) o)) in
      subst (λ m. Holds m (written ++ entries_from (last + 1) (operations ++ o ∷ [])) (last + length (operations ++ o ∷ []))) (sym after)
      (subst (λ n. Holds (with_entry e memory) (written ++ entries_from (last + 1) (operations ++ o ∷ [])) n) end
      (subst (λ es. Holds (with_entry e memory) es e.key.seq) entries (one memory (written ++ entries_from (last + 1) operations) (last + length operations) e h later).1))

-- ---- batch by batch

pub wal_corrupt : (e : WalErr) (name : Name) (place : ℕ) → of_wal e ≡ Corrupt name place → e ≡ wal.Corrupt name place
wal_corrupt wal.Disk name place is = cc is
wal_corrupt (wal.Corrupt n p) name place is = let a : n ≡ name = cc is in let b : p ≡ place = cc is in (λ i. wal.Corrupt (a i) (b i))
wal_corrupt wal.OutOfMemory name place is = cc is

pub follows_next : (next : NextBatch) (first : ℕ) (operations : List Operation) (last last_after : ℕ) → next ≡ Next first operations → Follows next last last_after → IsNext first operations last last_after
follows_next next first operations last last_after is f = subst (λ n. Follows n last last_after) is f

pub follows_end : (next : NextBatch) (end : LogEnd) (last last_after : ℕ) → next ≡ End end → Follows next last last_after → last_after ≡ last
follows_end next end last last_after is f = subst (λ n. Follows n last last_after) is f

-- behind a batch in bounds the last sequence is below 2 ^ 56
pub last_fits : (first last last_after : ℕ) (operations : List Operation) → IsNext first operations last last_after → last < 2 ^ 56 → last_after < 2 ^ 56
last_fits first last last_after operations next lt = by (length operations) refl
  where
    by : (n : ℕ) → length operations ≡ n → last_after < 2 ^ 56
    by zero e = let is = next.last_is in omega (arith, is, e, lt)
    by (suc n) e =
        let begins = next.first_is in
        let is = next.last_is in
        let most = next.bounds (omega (arith, e)) in
        omega (arith, begins, is, e, most)

-- one batch more
pub held_more : (written : List Entry) (batches : Batches) (first last last_after : ℕ) (operations : List Operation) (now after : List Entry) → IsNext first operations last last_after
    → ((w : List Entry) → Holds now w last → Holds after (w ++ entries_from (last + 1) operations) (last + length operations))
    → Holds now (written ++ entries_of batches) last → Holds after (written ++ entries_of (batches ++ record { first = first; operations = operations } ∷ [])) last_after
held_more written batches first last last_after operations now after next more holds =
    let b : Batch = record { first = first; operations = operations } in
    let joined : entries_of (batches ++ b ∷ []) ≡ entries_of batches ++ entries_from first operations =
    flat_map-append (λ (x : Batch). entries_from x.first x.operations) batches (b ∷ []) ∙ ap (λ es. entries_of batches ++ es) (append-nil (entries_from first operations)) in
    let same : (written ++ entries_of batches) ++ entries_from (last + 1) operations ≡ written ++ entries_of (batches ++ b ∷ []) =
    append_assoc written (entries_of batches) (entries_from (last + 1) operations)
    ∙ ap (λ n. written ++ (entries_of batches ++ entries_from n operations)) (sym next.first_is) ∙ ap (λ es. written ++ es) (sym joined) in
    subst (λ n. Holds after (written ++ entries_of (batches ++ b ∷ [])) n) (sym next.last_is)
    (subst (λ es. Holds after es (last + length operations)) same (more (written ++ entries_of batches) holds))

pub filled_more : (first last last_after : ℕ) (operations : List Operation) (now after : List Entry) → IsInBounds (record { first = first; operations = operations }) → IsNext first operations last last_after
    → ((w : List Entry) → Holds now w last → Holds after (w ++ entries_from (last + 1) operations) (last + length operations)) → IsFilled now last → IsFilled after last_after
filled_more first last last_after operations now after fits next more f =
    let b : Batch = record { first = first; operations = operations } in
    record {
      batches = f.batches ++ b ∷ [];
      fit = all_append IsInBounds f.batches (b ∷ []) f.fit (fits, tt);
      holds = held_more [] f.batches first last last_after operations now after next more f.holds;
    }

-- of this file a reader has read some batches, and the memory has got their entries
pub record Progress (before : ℕ) (file : Option (List ℕ)) (old : List Entry) (reader : BatchReading) (now : List Entry) : Type 0 where
  pub batches : Batches
  pub has : HasReplayed file before batches reader
  pub fit : AllByRecursion IsInBounds batches
  pub holds : (written : List Entry) → Holds old written before → Holds now (written ++ entries_of batches) reader.last

pub nothing_yet : (before : ℕ) (file : Option (List ℕ)) (old : List Entry) (reader : BatchReading) → HasReplayed file before [] reader → reader.last ≡ before → Progress before file old reader old
nothing_yet before file old reader has last = record {
  batches = [];
  has = has;
  fit = tt;
  holds = λ written h. subst (λ n. Holds old (written ++ []) n) (sym last) (subst (λ es. Holds old es before) (sym (append-nil written)) h);
}

-- the log is read to its end
pub log_ended : (folder : Folder) (number before last last_new : ℕ) (old now : List Entry) (reader : BatchReading) (end : LogEnd) (p : Progress before (folder (log_name number)) old reader now)
    → EndsBehind (folder (log_name number)) before p.batches last_new end → last_new ≡ reader.last → last ≡ reader.last → HasReplayedLog folder number before last old now
log_ended folder number before last last_new old now reader end p e new is = record {
  bytes = e.bytes;
  there = e.there;
  batches = p.batches;
  are = e.are ∙ ap (λ n. Some (p.batches, n)) (new ∙ sym is);
  fit = p.fit;
  holds = λ written h. subst (Holds now (written ++ entries_of p.batches)) (sym is) (p.holds written h);
}

-- ---- log by log

-- a number is none of greater ones
not_among : (n : ℕ) (keys : List ℕ) → AllByRecursion (λ k. n < k) keys → Contains keys n → ⊥
not_among n [] h (k, less, is) = absurd (omega (arith, less))
not_among n (x ∷ xs) h (zero, less, is) = let lt = h.0 in omega (arith, lt, is)
not_among n (x ∷ xs) h (suc k, less, is) = let small : k < length xs = omega (arith, less) in not_among n xs h.1 (k, small, is)

-- it is the first, or among the others
pub first_or_other : (n x : ℕ) (xs : List ℕ) → Contains (x ∷ xs) n → (x ≡ n) ⊎ Contains xs n
first_or_other n x xs (zero, less, is) = inl is
first_or_other n x xs (suc k, less, is) = let small : k < length xs = omega (arith, less) in inr (k, small, is)

pub greater : (x : ℕ) (xs : List ℕ) → IsStrictlySortedBy nat_cmp (x ∷ xs) → AllByRecursion (λ n. x < n) xs × IsStrictlySortedBy nat_cmp xs
unfolding IsStrictlySortedBy
greater x xs h = (each xs h.0, h.1)
  where
    each : (ys : List ℕ) → AllByRecursion (λ n. nat_cmp x n ≡ Less) ys → AllByRecursion (λ n. x < n) ys
    each [] k = tt
    each (y ∷ ys) k = (nat_cmp_less x y k.0, each ys k.1)

all_less : (n x : ℕ) (xs : List ℕ) → n < x → AllByRecursion (λ k. x < k) xs → AllByRecursion (λ k. n < k) xs
all_less n x [] lt h = tt
all_less n x (y ∷ ys) lt h = let more = h.0 in (omega (arith, lt, more), all_less n x ys lt h.1)

absent : (folder : Folder) (n : ℕ) → (IsSome (folder (log_name n)) → ⊥) → folder (log_name n) ≡ None
absent folder n none = elim (folder (log_name n)) as (λ o. (IsSome o → ⊥) → o ≡ None) [ None ↦ λ h. refl | Some bytes ↦ λ h. absurd (h refl) ] none

-- an absent log has no record
none_in : (folder : Folder) (n : ℕ) → (IsNumber n → folder (log_name n) ≡ None) → records (log_bytes folder n) ≡ []
none_in folder n none = by (is_number n) refl
  where
    by : (b : Bool) → is_number n ≡ b → records (log_bytes folder n) ≡ []
    by false e = ap (λ b. records (cond b (unwrap_or (folder (log_name n)) []) [])) e ∙ no_record
    by true e = ap (λ b. records (cond b (unwrap_or (folder (log_name n)) []) [])) e ∙ ap (λ o. records (unwrap_or o [])) (none (from_test n e)) ∙ no_record

to_test : (n : ℕ) → IsNumber n → is_number n ≡ true
to_test n is = let some = is.0 in let few = is.1 in grind (arith, some, few)

bytes_of : (folder : Folder) (n : ℕ) (bytes : List ℕ) → IsNumber n → folder (log_name n) ≡ Some bytes → log_bytes folder n ≡ bytes
bytes_of folder n bytes is there = by (is_number n) refl
  where
    by : (b : Bool) → is_number n ≡ b → log_bytes folder n ≡ bytes
    by false e = absurd (not_false e)
      where
        not_false : is_number n ≡ false → ⊥
        not_false e = cc (e, to_test n is)
    by true e = ap (λ b. cond b (unwrap_or (folder (log_name n)) []) []) e ∙ ap (λ o. unwrap_or o []) there

-- the first so many logs were replayed, and these numbers are those of the logs behind them
pub record SoFar (folder : Folder) (from before : ℕ) (rest : List ℕ) (memory : List Entry) (last : ℕ) : Type 0 where
  pub count : ℕ
  pub batches : List Batch
  pub are : batches_of (log_records folder from count) before ≡ Some (batches, last)
  pub fit : AllByRecursion IsInBounds batches
  pub holds : Holds memory (entries_of batches) last
  pub left : AreLogsFrom folder (from + count) rest

pub none_so_far : (folder : Folder) (from before : ℕ) (numbers : List ℕ) (memory : List Entry) → AreLogsFrom folder from numbers → Holds memory [] before → SoFar folder from before numbers memory before
unfolding log_records batches_of
none_so_far folder from before numbers memory logs holds = record {
  count = 0;
  batches = [];
  are = refl;
  fit = tt;
  holds = holds;
  left = let e : from ≡ from + 0 = omega arith in subst (λ n. AreLogsFrom folder n numbers) e logs;
}

-- logs without a record add none
gap : (folder : Folder) (from count more : ℕ) → ((n : ℕ) → from + count ≤ n → n < from + (count + more) → records (log_bytes folder n) ≡ []) → log_records folder from (count + more) ≡ log_records folder from count
unfolding log_records
gap folder from count zero none = let e : count + 0 ≡ count = omega arith in ap (log_records folder from) e
gap folder from count (suc more) none =
    let e : count + suc more ≡ suc (count + more) = omega arith in
    ap (log_records folder from) e
    ∙ (λ i. gap folder from count more (λ n le less. none n le (omega (arith, less))) i ++ none (from + (count + more)) (omega arith) (omega arith) i)
    ∙ append-nil (log_records folder from count)

module _ (folder : Folder) (from before n : ℕ) (rest : List ℕ) (memory : List Entry) (last : ℕ) (s : SoFar folder from before (n ∷ rest) memory last) where
  above : from + s.count ≤ n
  above = s.left.each.0.0

  none_between : (k : ℕ) → from + s.count ≤ k → k < n → records (log_bytes folder k) ≡ []
  none_between k le less = none_in folder k (λ is. absent folder k (λ some.
      not_among k (n ∷ rest) (less, all_less k n rest less (greater n rest s.left.ascend).0) (s.left.all k le is some)))

  pub below_are : batches_of (log_records folder from (n - from)) before ≡ Some (s.batches, last)
  below_are =
      let le = above in
      let e : n - from ≡ s.count + (n - (from + s.count)) = omega (arith, le) in
      ap (λ k. batches_of (log_records folder from k) before) e
      ∙ ap (λ rs. batches_of rs before) (gap folder from s.count (n - (from + s.count)) (λ k le less. none_between k le (omega (arith, less, above)))) ∙ s.are

  pub fails : (name : Name) (place : ℕ) → name ≡ log_name n → IsTorn folder n last place → LogsFail folder from before name place
  fails name place is torn =
      let le = above in
      let e : from + (n - from) ≡ n = omega (arith, le) in
      let some : IsSome (folder (log_name n)) = s.left.each.0.2 in
      elim torn [
        | inl none ↦ absurd (cc (none.0, some))
        | inr t ↦ record {
          below = n - from;
          number = subst IsNumber (sym e) s.left.each.0.1;
          name_is = is ∙ ap log_name (sym e);
          bytes = t.0;
          there = ap (λ k. folder (log_name k)) e ∙ t.1;
          batches = s.batches;
          last = last;
          are = below_are;
          breaks = t.2;
        }
      ]

  pub one_log_more : BatchesJoin → (memory_after : List Entry) (last_after : ℕ) → HasReplayedLog folder n last last_after memory memory_after → SoFar folder from before rest memory_after last_after
  unfolding log_records
  one_log_more join memory_after last_after h =
      let le = above in
      let at : from + (n - from) ≡ n = omega (arith, le) in
      let same : log_bytes folder (from + (n - from)) ≡ h.bytes = ap (log_bytes folder) at ∙ bytes_of folder n h.bytes s.left.each.0.1 h.there in
      let next : from + suc (n - from) ≡ n + 1 = omega (arith, le) in
      let sorted = greater n rest s.left.ascend in
      record {
        count = suc (n - from);
        batches = s.batches ++ h.batches;
        are = ap (λ bs. batches_of (log_records folder from (n - from) ++ records bs) before) same ∙ join (log_records folder from (n - from)) (records h.bytes) before
            ∙ ap (option_and_then (λ (x : List Batch × ℕ). and_batches x.0 (batches_of (records h.bytes) x.1))) below_are ∙ ap (and_batches s.batches) h.are;
        fit = all_append IsInBounds s.batches h.batches s.fit h.fit;
        holds = subst (λ es. Holds memory_after es last_after) (sym (flat_map-append (λ (x : Batch). entries_from x.first x.operations) s.batches h.batches)) (h.holds (entries_of s.batches) s.holds);
        left = subst (λ k. AreLogsFrom folder k rest) (sym next) (record {
          ascend = sorted.1;
          each = raised rest sorted.0 s.left.each.1;
          all = λ k lt is some. by k lt (first_or_other k n rest (s.left.all k (omega (arith, lt, above)) is some));
        });
      }
    where
      raised : (ks : List ℕ) → AllByRecursion (λ k. n < k) ks → AllByRecursion (λ k. (from + s.count ≤ k) × IsNumber k × IsSome (folder (log_name k))) ks
          → AllByRecursion (λ k. (n + 1 ≤ k) × IsNumber k × IsSome (folder (log_name k))) ks
      raised [] less each = tt
      raised (k ∷ ks) less each = let lt = less.0 in ((omega (arith, lt), each.0.1, each.0.2), raised ks less.1 each.1)

      by : (k : ℕ) → n + 1 ≤ k → (n ≡ k) ⊎ Contains rest k → Contains rest k
      by k lt (inl same) = absurd (omega (arith, lt, same))
      by k lt (inr there) = there

-- what is left of some numbers from a place on
drop_at : (xs : List ℕ) (k : ℕ) → k < length xs → drop k xs ≡ get_or xs k 0 ∷ drop (k + 1) xs
drop_at [] k lt = absurd (omega (arith, lt))
drop_at (x ∷ xs) zero lt = refl
drop_at (x ∷ xs) (suc k) lt = let e : suc k + 1 ≡ suc (k + 1) = omega arith in drop_at xs k (omega (arith, lt)) ∙ ap (λ n. get_or xs k 0 ∷ drop n (x ∷ xs)) (sym e)

drop_all : (xs : List ℕ) (k : ℕ) → length xs ≤ k → drop k xs ≡ []
drop_all [] zero le = refl
drop_all [] (suc k) le = refl
drop_all (x ∷ xs) zero le = absurd (omega (arith, le))
drop_all (x ∷ xs) (suc k) le = drop_all xs k (omega (arith, le))

pub left_now : (folder : Folder) (from before : ℕ) (numbers : List ℕ) (k : ℕ) (memory : List Entry) (last : ℕ) → k < length numbers → SoFar folder from before (drop k numbers) memory last
    → SoFar folder from before (get_or numbers k 0 ∷ drop (k + 1) numbers) memory last
left_now folder from before numbers k memory last lt s = subst (λ ns. SoFar folder from before ns memory last) (drop_at numbers k lt) s

pub none_left : (folder : Folder) (from before : ℕ) (numbers : List ℕ) (k : ℕ) (memory : List Entry) (last : ℕ) → length numbers ≤ k → SoFar folder from before (drop k numbers) memory last → SoFar folder from before [] memory last
none_left folder from before numbers k memory last le s = subst (λ ns. SoFar folder from before ns memory last) (drop_all numbers k le) s

-- what is filled has puts and deletions alone
pub are_plain : HeldIsMemory → (memory : List Entry) (last : ℕ) → IsFilled memory last → ArePutsAndDeletions memory
are_plain law memory last f =
    let m = law f.batches memory last f.fit f.holds in
    both memory m.proper m.plain
  where
    both : (es : List Entry) → AllByRecursion IsProper es → AllByRecursion (λ e. IsPlainKind e.key.kind) es → ArePutsAndDeletions es
    both [] p q = tt
    both (e ∷ es) p q = ((p.0, q.0), both es p.1 q.1)

-- all were
pub all_replayed : (folder : Folder) (from before : ℕ) (memory : List Entry) (last : ℕ) → SoFar folder from before [] memory last → HasReplayedLogs folder from before memory last
all_replayed folder from before memory last s = record {
  batches = s.batches;
  have = record {
    count = s.count;
    no_more = λ n le. none_in folder n (λ is. absent folder n (λ some. not_among n [] tt (s.left.all n le is some)));
    are = s.are;
  };
  fit = s.fit;
  holds = s.holds;
}
