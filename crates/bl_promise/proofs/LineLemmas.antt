-- Calls of a store are lines of the machine.
use Rattle.std.proofs.Common.{◌≡◌, ℕ, ◌+◌, ◌||◌, Bool, true, false, cond, List, [], ◌∷◌, ◌++◌, Option, None, Some, IsSome, length, drop, sum_by, refl, sym, ◌∙◌, ap, subst}
use Rattle.std.specs.Prelude.{map}
use Rattle.std.proofs.lemmas.List.Sorted.{sum_by-IsPermutation}
use Rattle.std.proofs.lemmas.List.Sums.{sum_by-append, sum_by-cons}
use Rattle.bl_memtab.specs.Tables.{size}
use Rattle.bl_entry.specs.Written.{entries_from, entries_of, entry}
use Rattle.bl_entry.specs.declared.batch.Operation.{Operation}
use Rattle.bl_store.specs.Standing.{HasWaiting}
use Rattle.bl_open.specs.Steady.{Steady}
use Rattle.bl_entry.specs.Batches.{Batch, put_of, deletion_of}
use Rattle.bl_entry.specs.Revisions.{Map, after_operations}
use Rattle.bl_edit.specs.Options.{Values}
use Rattle.bl_build.specs.Restoring.{Restored}
use Rattle.bl_build.specs.Versions.{IsVersion}
use Rattle.bl_folder.specs.Laws.{LiveIsVersion}
use Rattle.bl_open.specs.SteadyLaws.{SteadyHoldWritten}
use Rattle.bl_script.specs.declared.command.Command.TheVariants as command
use Rattle.bl_script.specs.declared.command.Parsed.{Parsed}
use Rattle.bl_script.specs.declared.command.Parsed.TheVariants.{Nothing, Refused, Go}
use Rattle.bl_script.specs.Printing.{ok_line}
use Rattle.bl_machine.specs.Writes.{Write, bytes_of, operation, value_size}
use Rattle.bl_machine.specs.State.{State, IsInOrder, start}
use Rattle.bl_machine.specs.Step.{Obeys, Writes, switches, writes_of}
use Rattle.bl_machine.proofs.HistoryLemmas.{same_state}
use Rattle.bl_store.specs.Stored.{Stored}
use Rattle.bl_store.specs.Held.{Held, after_writes, all_durable, maps_of, now_of, with_write}
use Rattle.bl_store.specs.Calls.{HasWritten, bytes_in, is_full}
use Rattle.bl_store.specs.declared.store.Waiting.{Waiting}
use Rattle.bl_promise.specs.Carried.{is_waiting, state_of}
use Rattle.bl_promise.specs.Lines.{BegunCarry, BytesAreInLogs, FlushesAreLines, QuietLinesStay, ReopeningsAreLines, StoresAreInOrder, SyncsAreLines, WritesAreLines}
use Rattle.bl_promise.proofs.MapLemmas.{same_bytes}

-- ---- the files are in order

pub stores_in_order : SteadyHoldWritten → LiveIsVersion → StoresAreInOrder
stores_in_order hold law names held store disk t =
    let h = hold (maps_of held) t.steady _ t.is_steady in
    let v : IsVersion t.steady.holding.live.version = law _ t.steady.manifest.number t.steady.holding.live h.live in
    let same : t.steady.holding.live.version ≡ store.version = ap (λ (r : Restored). r.version) t.carries.live in
    subst IsInOrder same (record { tables = v.tables_ascend; blobs = v.blobs_ascend })

-- ---- a write

writes_obey : (o : Values) (s : State) (order : Parsed) (w : Write) (told : List ℕ) (new : State) → writes_of s order ≡ w ∷ [] → Writes o w s told new → Obeys o order s told new
writes_obey o s Nothing w told new is writes = cc is
writes_obey o s (Refused why) w told new is writes = cc is
writes_obey o s (Go (command.Put key value)) w told new is writes = let e : w ≡ put_of key value ∷ [] = cc is in subst (λ (x : Write). Writes o x s told new) e writes
writes_obey o s (Go (command.Del key)) w told new is writes = let e : w ≡ deletion_of key ∷ [] = cc is in subst (λ (x : Write). Writes o x s told new) e writes
writes_obey o s (Go (command.Batch operations)) w told new is writes = let e : w ≡ map operation operations = cc is in subst (λ (x : Write). Writes o x s told new) e writes
writes_obey o s (Go (command.Get key)) w told new is writes = cc is
writes_obey o s (Go (command.Scan from to)) w told new is writes = cc is
writes_obey o s (Go command.Sync) w told new is writes = cc is
writes_obey o s (Go command.Flush) w told new is writes = cc is
writes_obey o s (Go command.Files) w told new is writes = cc is
writes_obey o s (Go command.Reopen) w told new is writes = cc is

pub after_more : (ws : List Write) (w : Write) (m : Map) → after_writes (ws ++ w ∷ []) m ≡ after_operations w (after_writes ws m)
after_more [] w m = refl
after_more (v ∷ ws) w m = after_more ws w (after_operations v m)

some_waits : (waiting : Option Waiting) → IsSome waiting → is_waiting waiting ≡ true
some_waits None is = cc is
some_waits (Some w) is = refl

-- whether a memory waits behind it
waits_then : (old new : Stored) (w : Write) (full : Bool) → is_full old ≡ full → HasWritten w old new → is_waiting new.waiting ≡ (full || is_waiting old.waiting)
waits_then old new w true is h = some_waits new.waiting (h.waits is)
waits_then old new w false is h = ap is_waiting (h.room is).0

-- from the store's own state
write_line : (held : Held) (w : Write) (old new : Stored) → HasWritten w old new
    → Writes old.standing.options w (state_of (now_of held) old) ok_line (state_of (now_of (with_write w held)) new)
write_line held w old new h =
    let s = state_of (now_of held) old in
    let t = state_of (now_of (with_write w held)) new in
    let o = old.standing.options in
    let bytes : bytes_in new.memory ≡ cond (is_full old) 0 (bytes_in old.memory) + bytes_of w = h.bytes ∙ ap (λ n. cond (is_full old) 0 (bytes_in old.memory) + n) (same_bytes w) in
    record {
      told_is = refl;
      job = λ set. set;
      left = same_state t (record s { now = after_operations w s.now; listing = t.listing; waits = switches o s || s.waits; runs = t.runs; buffered = cond (switches o s) 0 s.buffered + bytes_of w })
          (after_more held.writes w held.before) refl (waits_then old new w (is_full old) refl h) refl bytes;
    }

pub writes_are_lines : StoresAreInOrder → WritesAreLines
writes_are_lines law names o s held order w old new disk after c writes h t =
    let line : Writes old.standing.options w (state_of (now_of held) old) ok_line (state_of (now_of (with_write w held)) new) = write_line held w old new h in
    let with_options : Writes o w (state_of (now_of held) old) ok_line (state_of (now_of (with_write w held)) new) =
    subst (λ (p : Values). Writes p w (state_of (now_of held) old) ok_line (state_of (now_of (with_write w held)) new)) c.options_are line in
    let here : Writes o w s ok_line (state_of (now_of (with_write w held)) new) = subst (λ (x : State). Writes o w x ok_line (state_of (now_of (with_write w held)) new)) (sym c.state_is) with_options in
    record {
      obeys = writes_obey o s order w ok_line _ writes here;
      in_order = law names (with_write w held) new after t;
      carries = record { stands = t; options_are = h.options ∙ c.options_are; state_is = refl };
    }

-- ---- the other lines

pub flushes_are_lines : StoresAreInOrder → FlushesAreLines
flushes_are_lines law names o s held old new disk after c h t =
    let new_state = state_of (now_of held) new in
    let left : new_state ≡ record (state_of (now_of held) old) { listing = new_state.listing; waits = false; runs = new_state.runs; buffered = 0 } =
    same_state new_state (record (state_of (now_of held) old) { listing = new_state.listing; waits = false; runs = new_state.runs; buffered = 0 }) refl refl (ap is_waiting h.waiting) refl (ap bytes_in h.memory) in
    record {
      obeys = subst (λ (x : State). Obeys o (Go command.Flush) x ok_line new_state) (sym c.state_is) (record { told_is = refl; job = λ set. set; left = left });
      in_order = law names (all_durable held) new after t;
      carries = record { stands = t; options_are = h.options ∙ c.options_are; state_is = refl };
    }

pub syncs_are_lines : StoresAreInOrder → SyncsAreLines
syncs_are_lines law names o s held store new disk after c same t = record {
  obeys = record { told_is = refl; same = ap (state_of (now_of held)) same ∙ sym c.state_is };
  in_order = law names (all_durable held) new after t;
  carries = record { stands = t; options_are = ap (λ (x : Stored). x.standing.options) same ∙ c.options_are; state_is = refl };
}

pub reopenings_are_lines : StoresAreInOrder → ReopeningsAreLines
reopenings_are_lines law names kept o s held after old new disk disk_after c b options same t =
    let new_state = state_of (now_of after) new in
    let left : new_state ≡ record (state_of (now_of held) old) { listing = new_state.listing; waits = false; runs = false; buffered = 0 } =
    same_state new_state (record (state_of (now_of held) old) { listing = new_state.listing; waits = false; runs = false; buffered = 0 }) same refl (ap is_waiting b.waiting) refl (ap bytes_in b.memory) in
    record {
      obeys = subst (λ (x : State). Obeys o (Go command.Reopen) x ok_line new_state) (sym c.state_is) (record { told_is = refl; left = left });
      in_order = law kept after new disk_after t;
      carries = record { stands = t; options_are = options ∙ c.options_are; state_is = refl };
    }

pub quiet_lines_stay : StoresAreInOrder → QuietLinesStay
quiet_lines_stay law names o s held order told store disk c obeys = record {
  obeys = subst (λ (x : State). Obeys o order s told x) c.state_is obeys;
  in_order = law names held store disk c.stands;
  carries = record { stands = c.stands; options_are = c.options_are; state_is = refl };
}

pub begun_carry : BegunCarry
begun_carry names m store disk b t = record {
  stands = t;
  options_are = refl;
  state_is = same_state (start m store.version) (state_of m store) refl refl (sym (ap is_waiting b.waiting)) refl (sym (ap bytes_in b.memory));
}

-- ---- the bytes in memory are those of batches

entry_size : (user : List ℕ) (seq : ℕ) (put : Option (List ℕ)) → size (entry user seq put) ≡ length user + 8 + value_size put
entry_size user seq None = refl
entry_size user seq (Some value) = refl

operations_size : (seq : ℕ) (w : Write) → sum_by size (entries_from seq w) ≡ bytes_of w
unfolding entries_from
operations_size seq [] = refl
operations_size seq (o ∷ w) =
    sum_by-cons size (entry o.key seq o.put) (entries_from (seq + 1) w) ∙ ap (λ n. n + sum_by size (entries_from (seq + 1) w)) (entry_size o.key seq o.put)
    ∙ ap (λ n. (length o.key + 8 + value_size o.put) + n) (operations_size (seq + 1) w) ∙ sym (sum_by-cons (λ (x : Operation). length x.key + 8 + value_size x.put) o w)

batches_size : (batches : List Batch) → sum_by size (entries_of batches) ≡ sum_by (λ b. bytes_of b.operations) batches
batches_size [] = refl
batches_size (b ∷ batches) =
    sum_by-append size (entries_from b.first b.operations) (entries_of batches) ∙ ap (λ n. n + sum_by size (entries_of batches)) (operations_size b.first b.operations)
    ∙ ap (λ n. bytes_of b.operations + n) (batches_size batches) ∙ sym (sum_by-cons (λ (x : Batch). bytes_of x.operations) b batches)

none_below : (s : Steady) (waiting : Option Waiting) → HasWaiting s waiting → is_waiting waiting ≡ false → s.below ≡ 0
none_below s None has is = has
none_below s (Some w) has is = cc is

pub bytes_in_logs : BytesAreInLogs
bytes_in_logs names held store disk t =
    let written = entries_of (drop t.steady.below t.steady.holding.batches) in (
      sym (batches_size (drop t.steady.below t.steady.holding.batches)) ∙ sym (sum_by-IsPermutation size written store.memory t.carries.memory.same),
      none_below t.steady store.waiting t.carries.waiting,
    )
