use Rattle.std.proofs.Common.{◌≤◌, ◌-◌, map, ◌≡◌, ◌∙◌, ap, sym, subst, arith, length, take, ◌+◌, ℕ, List, Vec, Global}
use Rattle.bl_table.specs.Steps.{cell_read}
use Rattle.bl_table.specs.Blocks.{cells_in, next_after, entry_of}
use Rattle.bl_table.specs.Searching.{at_place, cells_behind}
use Rattle.bl_table.proofs.RestartLemmas.{walk_at, total_at, next_before}
use Rattle.bl_table.proofs.MoveLemmas.{moves_total}
use Rattle.bl_table.proofs.WalkLemmas.{Walks, walk_ends, walk_stops, walk_on, found, next_none, next_found, next_later}
use Rattle.bl_table.proofs.block.Block.after.Goals as goal

pub entries-init : goal.entries-init
entries-init c =
    let i = c.self.invariant in
    let fits : c.self.inside.limit ≤ length c.self.inside.bytes.items = omega arith in
    let entries = take c.self.inside.limit c.self.inside.bytes.items in
    let begins = (rw c.deref.ensures.value at c.restart_for_place-start.ensures) c.self.inside.offset i.3 in
    let start : c.taker_at-taker.result ≡ at_place c.restart_for_place-start.result entries = c.taker_at-taker.ensures ∙ ap (λ b. at_place c.restart_for_place-start.result (take c.self.inside.limit b)) c.deref-2.ensures.value in
    let same : c.self.inside.offset + (c.args.place - c.self.inside.offset) ≡ c.args.place = let up = c.if-place-self.false in omega arith in
    record {
      total = total_at c.self.inside.limit c.restart_for_place-start.result c.self.inside.bytes.items c.taker_at-taker.result start begins.within fits;
      left = cells_behind c.restart_for_place-start.result entries;
      walks = walk_at _ c.self.inside.offset c.restart_for_place-start.result entries c.new-before.result.items c.taker_at-taker.result begins start c.new-before.ensures.items;
      same = ap (λ p. next_after p (map (entry_of c.self.inside.offset) (cells_behind c.restart_for_place-start.result entries))) (sym same) ∙ begins.same
          ∙ ap (λ p. next_after p (map (entry_of c.self.inside.offset) (cells_in entries).cells)) same ∙ ap (next_after c.args.place) c.self.view_is;
    }

pub returns-in_default : goal.returns-in_default
returns-in_default c =
    next_none c.entries.passed c.self.inside.offset c.args.place c.entries.invariant.left _ c.entries.invariant.same
    (walk_stops c.self.inside.offset c.entries.taker c.entries.before.items c.entries.invariant.left c.entries.invariant.walks (omega (arith, c.left.ensures, c.entries-test.true)) (rw (c.in_default.is, c.deref-in-entries.ensures.value) at c.in_ok-entry.ensures.entry))

pub overflow_add-result : goal.overflow_add-result
overflow_add-result c =
    let place = rw c.in-Some.is at c.in_ok-entry.ensures.place in
    let i = c.self.invariant in
    omega (arith, place, c.entries.invariant.total, i.1, i.2)

pub returns-then-passed : goal.returns-then-passed
returns-then-passed c =
    let on = walk_on c.self.inside.offset c.entries.taker c.next_entry.new.taker c.entries.before.items (cell_read c.in-Some.entry c.next_entry.new.key.items) c.entries.invariant.left c.entries.invariant.walks
    (omega (arith, c.left.ensures, c.entries-test.true)) (rw (c.in-Some.is, c.deref-in-entries.ensures.value) at c.in_ok-entry.ensures.entry) (rw c.in-Some.is at c.in_ok-entry.ensures.moves) in
    let at = c.self.inside.offset + c.in-Some.entry.place in
    ap (λ (k : List ℕ). found at k c.in_ok-from_slice.field-0) c.from_vec.ensures ∙ ap (λ (v : List ℕ). found at c.next_entry.new.key.items v) c.in_ok-from_slice.ensures
    ∙ next_found c.entries.passed c.self.inside.offset c.args.place (cell_read c.in-Some.entry c.next_entry.new.key.items) c.entries.invariant.left on.more _ c.if-passed.true c.entries.invariant.same on.is

pub entries-preserved : goal.entries-preserved
entries-preserved c =
    let on = walk_on c.self.inside.offset c.entries.taker c.next_entry.new.taker c.entries.before.items (cell_read c.in-Some.entry c.next_entry.new.key.items) c.entries.invariant.left c.entries.invariant.walks
    (omega (arith, c.left.ensures, c.entries-test.true)) (rw (c.in-Some.is, c.deref-in-entries.ensures.value) at c.in_ok-entry.ensures.entry) (rw c.in-Some.is at c.in_ok-entry.ensures.moves) in
    let moves = rw c.in-Some.is at c.in_ok-entry.ensures.moves in
    let key : c.swap.new.x.items ≡ c.next_entry.new.key.items = ap (λ (v : Vec ℕ Global). v.items) c.swap.ensures.x_after in
    let P : List ℕ → Type 0 = λ k. Walks c.self.inside.offset c.next_entry.new.taker k on.more in
    record {
      total = moves_total 3 c.entries.taker c.next_entry.new.taker moves ∙ c.entries.invariant.total;
      left = on.more;
      walks = subst P (sym key) on.walks;
      same = next_later c.entries.passed c.self.inside.offset c.args.place (cell_read c.in-Some.entry c.next_entry.new.key.items) c.entries.invariant.left on.more _ c.if-passed.false c.entries.invariant.same on.is;
    }

pub returns : goal.returns
returns c =
    next_none c.entries.passed c.self.inside.offset c.args.place c.entries.invariant.left _ c.entries.invariant.same
    (walk_ends c.self.inside.offset c.entries.taker c.entries.before.items c.entries.invariant.left c.entries.invariant.walks (omega (arith, c.left.ensures, c.entries-test.false)))

pub overflow_add-passed : goal.overflow_add-passed
overflow_add-passed c =
    let place = rw c.in-Some.is at c.in_ok-entry.ensures.place in
    let i = c.self.invariant in
    omega (arith, place, c.entries.invariant.total, i.1, i.2)

pub returns-then-place-self : goal.returns-then-place-self
returns-then-place-self c =
    sym (ap (next_after c.args.place) (sym c.self.view_is) ∙ next_before c.self.inside.offset c.args.place (cells_in (take c.self.inside.limit c.self.inside.bytes.items)).cells c.if-place-self.true)
