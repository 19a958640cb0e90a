use Rattle.std.proofs.Common.{◌≤◌, ◌≡◌, ◌∙◌, ap, sym, subst, arith, length, take, ◌+◌, true, false, ℕ, List, Vec, Global}
use Rattle.std.specs.Ordering.{is_lt}
use Rattle.bl_code.specs.Order.{key_order}
use Rattle.bl_table.specs.Steps.{cell_read}
use Rattle.bl_table.specs.Blocks.{first_from}
use Rattle.bl_table.specs.Searching.{at_place, cells_behind}
use Rattle.bl_table.proofs.RestartLemmas.{walk_at, total_at}
use Rattle.bl_table.proofs.MoveLemmas.{moves_total}
use Rattle.bl_table.proofs.WalkLemmas.{Walks, walk_ends, walk_stops, walk_on, found, first_none, first_found, first_later}
use Rattle.bl_table.proofs.block.Block.first.Goals as goal

pub entries-init : goal.entries-init
entries-init c =
    let i = c.self.invariant in
    let fits : c.self.inside.limit ≤ length c.self.inside.bytes.items = omega arith in
    let entries = take c.self.inside.limit c.self.inside.bytes.items in
    let begins = (rw c.deref.ensures.value at c.restart_for_key-place.ensures) c.self.inside.offset i.3 in
    let start : c.taker_at-taker.result ≡ at_place c.restart_for_key-place.result entries = c.taker_at-taker.ensures ∙ ap (λ b. at_place c.restart_for_key-place.result (take c.self.inside.limit b)) c.deref-2.ensures.value in
    record {
      total = total_at c.self.inside.limit c.restart_for_key-place.result c.self.inside.bytes.items c.taker_at-taker.result start begins.within fits;
      left = cells_behind c.restart_for_key-place.result entries;
      walks = walk_at (first_from c.args.from.now) c.self.inside.offset c.restart_for_key-place.result entries c.new-before.result.items c.taker_at-taker.result begins start c.new-before.ensures.items;
      same = begins.same ∙ ap (first_from c.args.from.now) c.self.view_is;
    }

pub returns-in_default : goal.returns-in_default
returns-in_default c =
    first_none c.self.inside.offset c.args.from.now c.entries.invariant.left _ c.entries.invariant.same
    (walk_stops c.self.inside.offset c.entries.taker c.entries.before.items c.entries.invariant.left c.entries.invariant.walks (omega (arith, c.left.ensures, c.entries-test.true)) (rw (c.in_default.is, c.deref-in-entries.ensures.value) at c.in_ok-entry.ensures.entry))

pub is_before-requires-clause-first : goal.is_before-requires-clause-first
is_before-requires-clause-first c =
    let on = walk_on c.self.inside.offset c.entries.taker c.next_entry.new.taker c.entries.before.items (cell_read c.in-Some.entry c.next_entry.new.key.items) c.entries.invariant.left c.entries.invariant.walks
    (omega (arith, c.left.ensures, c.entries-test.true)) (rw (c.in-Some.is, c.deref-in-entries.ensures.value) at c.in_ok-entry.ensures.entry) (rw c.in-Some.is at c.in_ok-entry.ensures.moves) in
    let same : length c.deref-in-entries-2.result.now ≡ length c.next_entry.new.key.items = ap length c.deref-in-entries-2.ensures.value in
    omega (arith, on.long, same)

pub overflow_add-result : goal.overflow_add-result
overflow_add-result c =
    let place = rw c.in-Some.is at c.in_ok-entry.ensures.place in
    let i = c.self.invariant in
    omega (arith, place, c.entries.invariant.total, i.1, i.2)

pub returns-then-not-is_before : goal.returns-then-not-is_before
returns-then-not-is_before c =
    let on = walk_on c.self.inside.offset c.entries.taker c.next_entry.new.taker c.entries.before.items (cell_read c.in-Some.entry c.next_entry.new.key.items) c.entries.invariant.left c.entries.invariant.walks
    (omega (arith, c.left.ensures, c.entries-test.true)) (rw (c.in-Some.is, c.deref-in-entries.ensures.value) at c.in_ok-entry.ensures.entry) (rw c.in-Some.is at c.in_ok-entry.ensures.moves) in
    let wrong : is_lt (key_order c.next_entry.new.key.items c.args.from.now) ≡ false = sym (rw c.deref-in-entries-2.ensures.value at c.if-not-is_before.ensures) in
    let at = c.self.inside.offset + c.in-Some.entry.place in
    ap (λ (k : List ℕ). found at k c.in_ok-from_slice.field-0) c.from_vec.ensures ∙ ap (λ (v : List ℕ). found at c.next_entry.new.key.items v) c.in_ok-from_slice.ensures
    ∙ first_found c.self.inside.offset c.args.from.now (cell_read c.in-Some.entry c.next_entry.new.key.items) c.entries.invariant.left on.more _ c.entries.invariant.same on.is wrong

pub entries-preserved : goal.entries-preserved
entries-preserved c =
    let on = walk_on c.self.inside.offset c.entries.taker c.next_entry.new.taker c.entries.before.items (cell_read c.in-Some.entry c.next_entry.new.key.items) c.entries.invariant.left c.entries.invariant.walks
    (omega (arith, c.left.ensures, c.entries-test.true)) (rw (c.in-Some.is, c.deref-in-entries.ensures.value) at c.in_ok-entry.ensures.entry) (rw c.in-Some.is at c.in_ok-entry.ensures.moves) in
    let moves = rw c.in-Some.is at c.in_ok-entry.ensures.moves in
    let less : is_lt (key_order c.next_entry.new.key.items c.args.from.now) ≡ true = sym (rw c.deref-in-entries-2.ensures.value at c.if-not-is_before.ensures) in
    let key : c.swap.new.x.items ≡ c.next_entry.new.key.items = ap (λ (v : Vec ℕ Global). v.items) c.swap.ensures.x_after in
    let P : List ℕ → Type 0 = λ k. Walks c.self.inside.offset c.next_entry.new.taker k on.more in
    record {
      total = moves_total 3 c.entries.taker c.next_entry.new.taker moves ∙ c.entries.invariant.total;
      left = on.more;
      walks = subst P (sym key) on.walks;
      same = first_later c.self.inside.offset c.args.from.now (cell_read c.in-Some.entry c.next_entry.new.key.items) c.entries.invariant.left on.more _ c.entries.invariant.same on.is less;
    }

pub returns : goal.returns
returns c =
    first_none c.self.inside.offset c.args.from.now c.entries.invariant.left _ c.entries.invariant.same
    (walk_ends c.self.inside.offset c.entries.taker c.entries.before.items c.entries.invariant.left c.entries.invariant.walks (omega (arith, c.left.ensures, c.entries-test.false)))
