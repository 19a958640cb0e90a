-- How many file numbers a run takes.
use Rattle.std.proofs.Common.{◌≡◌, ℕ, ◌+◌, ◌*◌, ◌^◌, ◌≤◌, Bool, true, false, cond, List, [], ◌∷◌, ◌++◌, length, Option, None, Some, refl, sym, ◌∙◌, ap, subst, arith, length-append, filter}
use Rattle.std.proofs.Math.Nat.{mul-le-mul_left}
use Rattle.bl_entry.specs.Kept.{kept}
use Rattle.bl_entry.specs.declared.key.Entry.{Entry}
use Rattle.bl_out.specs.Outputs.{Out, added, begins_blob, begins_table, begun, made_for}
use Rattle.bl_flush.specs.Jobs.{next_behind}
use Rattle.bl_script.specs.declared.command.Parsed.{Parsed}
use Rattle.bl_machine.specs.Writes.{operations_in}
use Rattle.bl_machine.specs.Step.{Line}
use Rattle.bl_machine.specs.History.{orders_of, written_by}
use Rattle.bl_store.specs.Stored.{Stored}
use Rattle.bl_store.specs.Calls.{is_full, next_emptied, next_flushed}
use Rattle.bl_store.specs.declared.store.Waiting.{Waiting}
use Rattle.bl_promise.specs.Start.{Start}
use Rattle.bl_promise.specs.Numbers.{FlushesAreNumbered, FlushesTakeFew, IsNumbered, NumbersPass, OpeningsAreNumbered, QuietLinesAreNumbered, ReopeningsAreNumbered, RoomIsWithin, WritesAreNumbered, accepted, in_memory, per_line, waiting_in}

-- ---- a flush

one_at_most : (t : Bool) → cond t 1 0 ≤ 1
one_at_most true = omega arith
one_at_most false = omega arith

few_behind : (next : ℕ) (o : Out) (es : List Entry) → next_behind next o es ≤ next + 2 * length es
few_behind next o [] = omega arith
few_behind next o (e ∷ es) =
    let more = few_behind (next + made_for o e) (added next o e) es in
    omega (arith, more, one_at_most (begins_table o e), one_at_most (begins_blob o e))

no_longer : (p : Entry → Bool) (es : List Entry) → length (filter p es) ≤ length es
no_longer p [] = omega arith
no_longer p (e ∷ es) = by (p e) (no_longer p es)
  where
    by : (t : Bool) → length (filter p es) ≤ length es → length (cond t (e ∷ filter p es) (filter p es)) ≤ length (e ∷ es)
    by true less = omega (arith, less)
    by false less = omega (arith, less)

pub flushes_take_few : FlushesTakeFew
flushes_take_few options snapshots next memory =
    let less : length (kept snapshots false memory) ≤ length memory = no_longer _ memory in
    omega (arith, few_behind next (begun options true) (kept snapshots false memory), less)

flushed_few : (store : Stored) → next_flushed store ≤ store.next + 2 * waiting_in store.waiting
flushed_few store = by store.waiting
  where
    by : (waiting : Option Waiting) → next_flushed (record store { waiting = waiting }) ≤ store.next + 2 * waiting_in waiting
    by None = omega arith
    by (Some w) = flushes_take_few store.standing.options [] store.next w.memory

flushed_up : (store : Stored) → next_flushed store ≤ next_emptied store
flushed_up store = by store.memory
  where
    up : (next : ℕ) (o : Out) (es : List Entry) → next ≤ next_behind next o es
    up next o [] = omega arith
    up next o (e ∷ es) = let more = up (next + made_for o e) (added next o e) es in omega (arith, more)

    by : (memory : List Entry) → next_flushed store ≤ next_emptied (record store { memory = memory })
    by [] = omega arith
    by (e ∷ es) = let more = up (next_flushed store + 1) (begun store.standing.options true) (kept [] false (e ∷ es)) in omega (arith, more)

next_up : (store : Stored) → store.next ≤ next_flushed store
next_up store = by store.waiting
  where
    up : (next : ℕ) (o : Out) (es : List Entry) → next ≤ next_behind next o es
    up next o [] = omega arith
    up next o (e ∷ es) = let more = up (next + made_for o e) (added next o e) es in omega (arith, more)

    by : (waiting : Option Waiting) → store.next ≤ next_flushed (record store { waiting = waiting })
    by None = omega arith
    by (Some w) = up store.next (begun store.standing.options true) (kept [] false w.memory)

emptied_few : (store : Stored) → next_emptied store ≤ store.next + 2 * in_memory store + 1
emptied_few store = by store.memory
  where
    by : (memory : List Entry) → next_emptied (record store { memory = memory }) ≤ store.next + 2 * (length memory + waiting_in store.waiting) + 1
    by [] = omega (arith, flushed_few store)
    by (e ∷ es) = omega (arith, flushes_take_few store.standing.options [] (next_flushed store + 1) (e ∷ es), flushed_few store)

pub room_within : RoomIsWithin
room_within store = by (is_full store)
  where
    by : (t : Bool) → cond t (next_flushed store + 1) store.next ≤ next_emptied store + 1
    by true = omega (arith, flushed_up store)
    by false = omega (arith, next_up store, flushed_up store)

-- ---- lines

-- one line more, which takes no more than may be
grows : (number next lines less more taken : ℕ) → next ≤ number + (lines + 1) * less → less ≤ more → taken ≤ more → next + taken ≤ number + ((lines + 1) + 1) * more
grows number next lines less more taken so_far up few =
    let wider : (lines + 1) * less ≤ (lines + 1) * more = mul-le-mul_left (lines + 1) up in
    omega (arith, so_far, wider, few)

longer : (given : List Parsed) (order : Parsed) → length (given ++ order ∷ []) ≡ length given + 1
longer given order = length-append given (order ∷ [])

goes_on : (number : ℕ) (began : Start) (given : List Parsed) (order : Parsed) (old new : Stored) (taken : ℕ) → IsNumbered number began given old → old.last ≤ new.last → in_memory new ≤ accepted began new
    → new.next ≤ old.next + taken → taken ≤ 2 * accepted began old + 5 → IsNumbered number began (given ++ order ∷ []) new
goes_on number began given order old new taken n later few next within =
    let since = n.since in
    let up : per_line began old ≤ per_line began new = omega (arith, since, later) in
    let small : taken ≤ per_line began new = omega (arith, since, later, within) in
    let grown : old.next + taken ≤ number + ((length given + 1) + 1) * per_line began new = grows number old.next (length given) (per_line began old) (per_line began new) taken n.next up small in
    record {
      since = omega (arith, since, later);
      few = few;
      next = subst (λ (k : ℕ). new.next ≤ number + (k + 1) * per_line began new) (sym (longer given order)) (omega (arith, next, grown));
    }

pub openings_are_numbered : OpeningsAreNumbered
openings_are_numbered number began store b last next =
    let none : in_memory store ≡ 0 = ap (λ (es : List Entry). length es + waiting_in store.waiting) b.memory ∙ ap (λ (w : Option Waiting). 0 + waiting_in w) b.waiting in
    let one : (0 + 1) * per_line began store ≡ per_line began store = omega arith in
    record { since = omega (arith, last); few = omega (arith, none); next = omega (arith, next, one) }

pub writes_are_numbered : WritesAreNumbered
writes_are_numbered number began given order w old new n h memory =
    let few_before = n.few in
    let since = n.since in
    let last = h.last in
    goes_on number began given order old new (2 * accepted began old + 2) n (omega (arith, last)) (omega (arith, memory, few_before, last, since))
    (omega (arith, h.next, room_within old, emptied_few old, few_before)) (omega arith)

pub flushes_are_numbered : FlushesAreNumbered
flushes_are_numbered number began given order old new n h =
    let few_before = n.few in
    let last = h.last in
    let none : in_memory new ≡ 0 = ap (λ (es : List Entry). length es + waiting_in new.waiting) h.memory ∙ ap (λ (w : Option Waiting). 0 + waiting_in w) h.waiting in
    goes_on number began given order old new (2 * accepted began old + 1) n (omega (arith, last)) (omega (arith, none)) (omega (arith, h.next, emptied_few old, few_before)) (omega arith)

pub reopenings_are_numbered : ReopeningsAreNumbered
reopenings_are_numbered number began given order old new n b last next =
    let few_before = n.few in
    let none : in_memory new ≡ 0 = ap (λ (es : List Entry). length es + waiting_in new.waiting) b.memory ∙ ap (λ (w : Option Waiting). 0 + waiting_in w) b.waiting in
    goes_on number began given order old new (2 * accepted began old + 3) n (omega (arith, last)) (omega (arith, none)) (omega (arith, next, emptied_few old, few_before)) (omega arith)

pub quiet_lines_are_numbered : QuietLinesAreNumbered
quiet_lines_are_numbered number began given order store n = let few = n.few in goes_on number began given order store store 0 n (omega arith) few (omega arith) (omega arith)

-- ---- where none is left

same_length : (history : List Line) → length (orders_of history) ≡ length history
same_length [] = refl
same_length (line ∷ history) = omega (arith, same_length history)

pub numbers_pass : NumbersPass
numbers_pass folder number began history store first n last past =
    let ops = operations_in (written_by history) in
    let few = n.few in
    let is : accepted began store ≡ ops = omega (arith, last) in
    let so_far : store.next ≤ number + (length history + 1) * per_line began store =
    subst (λ (k : ℕ). store.next ≤ number + (k + 1) * per_line began store) (same_length history) n.next in
    let wide : per_line began store ≤ 6 * (began.entries + ops) + 2000003 = omega (arith, is) in
    let taken : 2 * accepted began store + 4 ≤ 6 * (began.entries + ops) + 2000003 = omega (arith, is) in
    let all : store.next + (2 * accepted began store + 4) ≤ number + ((length history + 1) + 1) * (6 * (began.entries + ops) + 2000003) =
    grows number store.next (length history) (per_line began store) (6 * (began.entries + ops) + 2000003) (2 * accepted began store + 4) so_far wide taken in
    let lines : (length history + 1) + 1 ≡ length history + 2 = omega arith in
    record {
      number = number;
      first = first;
      past = subst (λ (k : ℕ). 10 ^ 15 ≤ number + k * (6 * (began.entries + ops) + 2000003)) lines (omega (arith, past, emptied_few store, few, all));
      limit_is = refl;
    }
