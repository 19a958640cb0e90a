use Rattle.std.proofs.Common.{◌≡◌, ◌∙◌, ap, sym, subst, refl, arith, length, ◌+◌, ℕ, List, Vec, Global}
use Rattle.bl_code.specs.Reading.{Input}
use Rattle.bl_table.specs.Steps.{cell_read}
use Rattle.bl_table.specs.Blocks.{cells_in}
use Rattle.bl_table.proofs.MoveLemmas.{moves_total}
use Rattle.bl_table.proofs.WholeLemmas.{Leaves, all_leave, none_leave, stop_leaves, one_leaves, none_collected, one_collected}
use Rattle.bl_table.proofs.whole.collect.Goals as goal

pub cells-init : goal.cells-init
cells-init c =
    let place : c.over-taker.result.place ≡ 0 = ap (λ (i : Input). i.place) c.over-taker.ensures in
    let left : length c.over-taker.result.left ≡ length c.args.bytes.now = ap (λ (i : Input). length i.left) c.over-taker.ensures in
    record {
      total = omega arith;
      left = (cells_in c.args.bytes.now).cells;
      leaves = all_leave c.args.bytes.now c.new-before.result.items c.over-taker.result c.over-taker.ensures c.new-before.ensures.items;
      same = refl;
    }

pub returns-in_default : goal.returns-in_default
returns-in_default c =
    none_collected c.args.offset c.cells.entries.items _ c.cells.invariant.left c.cells.invariant.same
    (stop_leaves c.cells.taker c.cells.before.items c.cells.invariant.left c.cells.invariant.leaves (omega (arith, c.left.ensures, c.cells-test.true)) (rw (c.in_default.is, c.deref.ensures.value) at c.in_ok-entry.ensures.entry))

pub cells-preserved : goal.cells-preserved
cells-preserved c =
    let moves = rw c.in-Some.is at c.in_ok-entry.ensures.moves in
    let on = one_leaves c.cells.taker c.next_entry.new.taker c.cells.before.items (cell_read c.in-Some.entry c.next_entry.new.key.items) c.cells.invariant.left c.cells.invariant.leaves
    (omega (arith, c.left.ensures, c.cells-test.true)) (rw (c.in-Some.is, c.deref.ensures.value) at c.in_ok-entry.ensures.entry) moves in
    let key : c.swap.new.x.items ≡ c.next_entry.new.key.items = ap (λ (v : Vec ℕ Global). v.items) c.swap.ensures.x_after in
    let P : List ℕ → Type 0 = λ k. Leaves c.next_entry.new.taker k on.more in
    record {
      total = moves_total 3 c.cells.taker c.next_entry.new.taker moves ∙ c.cells.invariant.total;
      left = on.more;
      leaves = subst P (sym key) on.leaves;
      same = one_collected c.args.offset c.cells.entries.items c.push.new.self.items _ (record { place = c.args.offset + c.in-Some.entry.place; key = c.in_ok-from_slice.field-0; value = c.in_ok-from_slice-2.field-0 }) (cell_read c.in-Some.entry c.next_entry.new.key.items) c.cells.invariant.left on.more c.cells.invariant.same on.is
          (let key_is = c.in_ok-from_slice.ensures ∙ c.deref-in-cells.ensures.value in λ i. record { place = c.args.offset + c.in-Some.entry.place; key = key_is i; value = c.in_ok-from_slice-2.ensures i }) c.in_ok-push.ensures.items;
    }

pub returns : goal.returns
returns c =
    none_collected c.args.offset c.cells.entries.items _ c.cells.invariant.left c.cells.invariant.same
    (none_leave c.cells.taker c.cells.before.items c.cells.invariant.left c.cells.invariant.leaves (omega (arith, c.left.ensures, c.cells-test.false)))
