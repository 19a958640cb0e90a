-- No store stands on a disk whose batches pass the greatest sequence.
use Rattle.std.proofs.Common.{◌≡◌, ◌⊎◌, ℕ, ◌+◌, ◌^◌, ◌<◌, ◌≤◌, List, [], ◌∷◌, ◌++◌, length, map, Bool, true, false, refl, sym, ◌∙◌, ap, subst, arith, inl, inr, Option, Some, None}
use Rattle.std.specs.Prelude.{cond, ◌==◌, ◌||◌, nat_le, Ok, Err, Result}
use Rattle.std.proofs.lemmas.Bool.{leb-true, eqb-true, or_cases}
use Rattle.std.proofs.lemmas.List.Sums.{sum_by-append, sum_by-cons}
use Rattle.std.proofs.lemmas.Option.{same_Some}
use Rattle.bl_site.specs.Disk.{Disk, folder_of}
use Rattle.bl_code.specs.Reading.{Input, from_start, take_fixed32, take_fixed64, or_fault, need, ◌>>=◌}
use Rattle.bl_code.proofs.Basics.{need_then, ok_is}
use Rattle.bl_code.proofs.ChainLemmas.{then_ok}
use Rattle.bl_entry.specs.Batches.{Batch}
use Rattle.bl_entry.specs.Reading.{read_batch, operations_at}
use Rattle.bl_entry.specs.Records.{and_batch, batch_behind, batches_of}
use Rattle.bl_entry.specs.declared.batch.Operation.{Operation}
use Rattle.bl_entry.specs.declared.decode.BadBatch.{BadBatch}
use Rattle.bl_entry.specs.declared.decode.BadBatch.TheVariants.{At}
use Rattle.bl_entry.specs.declared.decode.BatchRule.TheVariants as rule
use Rattle.bl_wal.specs.Held.{record_of}
use Rattle.bl_script.specs.declared.command.Command.TheVariants as command
use Rattle.bl_script.specs.declared.command.Parsed.{Parsed}
use Rattle.bl_script.specs.declared.command.Parsed.TheVariants.{Go}
use Rattle.bl_logstore.specs.Stored.{Stored, Opens}
use Rattle.bl_shell.specs.Machine.{Line, Write, writes_of, written_by, operations_in, numbered, reopens, reopens_in, Start, Fits}
use Rattle.bl_shell.specs.Carried.{IsServable, IsWrite, HasRoom, operations_of}
use Rattle.bl_shell.proofs.StayLemmas.{next_number}

-- the last steps of reading a batch
abbrev sequences_then : ℕ → ℕ → List Operation → Result Batch BadBatch
sequences_then first count operations = need ((count == 0) || nat_le (first + count) (2 ^ 56)) (At rule.Sequence 0) >>= λ _. Ok (record { first = first; operations = operations })

abbrev operations_then : ℕ → ℕ → List Operation → Result Batch BadBatch
operations_then first count operations = need (length operations == count) (At rule.Count 8) >>= λ _. sequences_then first count operations

abbrev count_then : ℕ → ℕ × Input → Result Batch BadBatch
count_then first count = operations_at (length count.1.left) count.1 >>= operations_then first count.0

abbrev first_then : ℕ × Input → Result Batch BadBatch
first_then first = or_fault (At rule.Head 0) (take_fixed32 first.1) >>= count_then first.0

-- a batch that is read has no operation, or a sequence for each
abbrev HasSequences : Batch → Type 0
HasSequences b = (length b.operations ≡ 0) ⊎ (b.first + length b.operations ≤ 2 ^ 56)

room_of : (first count : ℕ) (operations : List Operation) → length operations ≡ count → ((count == 0) || nat_le (first + count) (2 ^ 56)) ≡ true → HasSequences (record { first = first; operations = operations })
room_of first count operations size test = elim (or_cases (count == 0) (nat_le (first + count) (2 ^ 56)) test) [
  | inl none ↦ inl (size ∙ eqb-true count 0 none)
  | inr le ↦ inr (omega (arith, leb-true (first + count) (2 ^ 56) le, size))
]

room_then : (first count : ℕ) (operations : List Operation) (b : Batch) → operations_then first count operations ≡ Ok b → HasSequences b
room_then first count operations b e =
    let (same, e4) = need_then (length operations == count) (At rule.Count 8) (λ _. sequences_then first count operations) b e in
    let (test, e5) = need_then ((count == 0) || nat_le (first + count) (2 ^ 56)) (At rule.Sequence 0) (λ _. Ok (record { first = first; operations = operations })) b e4 in
    subst HasSequences (ok_is e5) (room_of first count operations (eqb-true (length operations) count same) test)

read_room : (bytes : List ℕ) (b : Batch) → read_batch bytes ≡ Ok b → HasSequences b
unfolding read_batch
read_room bytes b e =
    let (first, at_first, e1) = then_ok (or_fault (At rule.Head 0) (take_fixed64 (from_start bytes))) first_then b e in
    let (count, at_count, e2) = then_ok (or_fault (At rule.Head 0) (take_fixed32 first.1)) (count_then first.0) b e1 in
    let (operations, at_operations, e3) = then_ok (operations_at (length count.1.left) count.1) (operations_then first.0 count.0) b e2 in
    room_then first.0 count.0 operations b e3

operations_first : (b : Batch) (bs : List Batch) → operations_of (b ∷ bs) ≡ length b.operations + operations_of bs
unfolding operations_of
operations_first b bs = sum_by-cons (λ (c : Batch). length c.operations) b bs

pub operations_joined : (bs more : List Batch) → operations_of (bs ++ more) ≡ operations_of bs + operations_of more
unfolding operations_of
operations_joined bs more = sum_by-append (λ (c : Batch). length c.operations) bs more

pub operations_numbered : (first : ℕ) (writes : List Write) → operations_of (numbered first writes) ≡ operations_in writes
unfolding operations_of operations_in numbered
operations_numbered first [] = refl
operations_numbered first (w ∷ writes) = omega (arith, operations_first (record { first = first; operations = w }) (numbered (first + length w) writes), operations_numbered (first + length w) writes)

-- the last sequence is counted, and passes no limit
pub record Ends (before last : ℕ) (bs : List Batch) : Type 0 where
  pub counted : last ≡ before + operations_of bs
  pub fits : before < 2 ^ 56 → last < 2 ^ 56

module _ (rs : List (List ℕ)) (before last : ℕ) (bs : List Batch) (ends : (s m : ℕ) (cs : List Batch) → batches_of rs s ≡ Some (cs, m) → Ends s m cs) where
  by_rest : (b : Batch) (o : Option (List Batch × ℕ)) → HasSequences b → b.first ≡ before + 1 → batches_of rs (before + length b.operations) ≡ o → and_batch b o ≡ Some (bs, last) → Ends before last bs
  by_rest b None room first q f = cc
  by_rest b (Some more) room first q f =
      let p : ◌≡◌ {A = List Batch × ℕ} (b ∷ more.0, more.1) (bs, last) = same_Some _ _ f in
      let rest = ends (before + length b.operations) more.1 more.0 q in
      let l : more.1 ≡ last = ap (λ x. x.1) p in
      let total : length b.operations + operations_of more.0 ≡ operations_of bs = sym (operations_first b more.0) ∙ ap (λ x. operations_of x.0) p in
      record {
        counted = omega (arith, rest.counted);
        fits = λ small.
            let next : before + length b.operations < 2 ^ 56 = omega (arith, room) in
            omega (arith, rest.fits next);
      }

  by_test : (b : Batch) (t : Bool) → HasSequences b → (b.first == before + 1) ≡ t → cond t (and_batch b (batches_of rs (before + length b.operations))) None ≡ Some (bs, last) → Ends before last bs
  by_test b true room first f = by_rest b (batches_of rs (before + length b.operations)) room (eqb-true b.first (before + 1) first) refl f
  by_test b false room first f = cc

  by_batch : (bytes : List ℕ) (x : Result Batch BadBatch) → read_batch bytes ≡ x → batch_behind before x (λ b. and_batch b (batches_of rs (before + length b.operations))) ≡ Some (bs, last) → Ends before last bs
  by_batch bytes (Err fault) read f = cc
  by_batch bytes (Ok b) read f = by_test b (b.first == before + 1) (read_room bytes b read) refl f

no_operations : operations_of [] ≡ 0
unfolding operations_of
no_operations = refl

pub ends : (records : List (List ℕ)) (before last : ℕ) (bs : List Batch) → batches_of records before ≡ Some (bs, last) → Ends before last bs
unfolding batches_of
ends [] before last bs e =
    let p : ◌≡◌ {A = List Batch × ℕ} ([], before) (bs, last) = same_Some _ _ e in
    let l : before ≡ last = ap (λ r. r.1) p in
    let none : operations_of bs ≡ 0 = ap (λ r. operations_of r.0) (sym p) ∙ no_operations in
    record { counted = omega arith; fits = λ small. omega arith }
ends (r ∷ rs) before last bs e = by_batch rs before last bs (λ s m cs. ends rs s m cs) r (read_batch r) refl e

-- of a store that stands
pub last_fits : (store : Stored) (batches : List Batch) (least : ℕ) (disk : Disk) → IsServable store batches least disk → store.last < 2 ^ 56
last_fits store batches least disk s =
    let on = s.carries.on in
    let below = ends _ 0 on.between s.older on.below in
    let own = ends (map record_of s.own) on.between store.last s.own on.follow in
    let between : on.between < 2 ^ 56 = below.fits (omega arith) in
    own.fits between

-- and of the lines that it has obeyed
pub lines_fit : (began : Start) (history : List Line) (store : Stored) (batches : List Batch) (least : ℕ) (disk : Disk) → IsServable store batches least disk
    → store.last ≡ began.last + operations_in (written_by history) → store.log.number ≡ began.number + reopens_in history → Fits began history
lines_fit began history store batches least disk s last number = record {
  sequences = omega (arith, last, last_fits store batches least disk s);
  numbers = omega (arith, number, s.carries.on.is_number.1);
}

no_writes : operations_in [] ≡ 0
unfolding operations_in
no_writes = refl

one_write : (operations : Write) → operations_in (operations ∷ []) ≡ length operations
unfolding operations_in
one_write operations = omega arith

-- an order that writes nothing and opens nothing
pub quiet_room : (order : Parsed) (store : Stored) (batches : List Batch) (least : ℕ) (disk : Disk) → writes_of order ≡ [] → reopens order ≡ 0 → IsServable store batches least disk → HasRoom order store
quiet_room order store batches least disk none opens s = record {
  sequences = omega (arith, last_fits store batches least disk s, ap operations_in none, no_writes);
  number = omega (arith, s.carries.on.is_number.1, opens);
}

-- a write that was written
pub written_room : (order : Parsed) (operations : Write) (store : Stored) (batches : List Batch) (least : ℕ) (disk : Disk) → IsWrite order operations → store.last + length operations < 2 ^ 56
    → IsServable store batches least disk → HasRoom order store
written_room order operations store batches least disk w fits s = record {
  sequences = omega (arith, fits, ap operations_in w.writes, one_write operations);
  number = omega (arith, s.carries.on.is_number.1, w.opens);
}

-- a store that was opened anew
pub reopened_room : (store next : Stored) (batches : List Batch) (least : ℕ) (disk mid : Disk) → Opens (folder_of disk) next mid → IsServable store batches least disk → HasRoom (Go command.Reopen) store
reopened_room store next batches least disk mid o s = record {
  sequences = omega (arith, last_fits store batches least disk s, no_writes);
  number = omega (arith, o.carries.on.is_number.1, next_number store batches least disk next.log.number s o.next);
}
