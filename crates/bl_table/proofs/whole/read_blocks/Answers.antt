use Rattle.std.proofs.Common.{◌≡◌, ◌∙◌, ap, sym, subst, arith, rules, length, map, ◌+◌, ℕ, List, [], Vec, Global, None}
use Rattle.bl_code.specs.Reading.{Input}
use Rattle.bl_table.specs.Faults.{◌and◌}
use Rattle.bl_table.specs.Steps.{fault_of, cell_read}
use Rattle.bl_table.specs.Blocks.{cells_in}
use Rattle.bl_table.specs.Whole.{data_at, data_fault}
use Rattle.bl_table.proofs.MoveLemmas.{moves_total}
use Rattle.bl_table.proofs.WholeLemmas.{Leaves, all_leave, none_leave, stop_leaves, one_leaves}
use Rattle.bl_table.proofs.ReadLemmas.{Reading, entries_in, reading_begins, reading_ends, reading_goes_on}
use Rattle.bl_table.proofs.whole.read_blocks.Goals as goal

pub cells-init : goal.cells-init
cells-init c =
    let place : c.over-taker.result.place ≡ 0 = ap (λ (i : Input). i.place) c.over-taker.ensures in
    let left : length c.over-taker.result.left ≡ length c.args.index.now = ap (λ (i : Input). length i.left) c.over-taker.ensures in
    record {
      total = omega arith;
      left = (cells_in c.args.index.now).cells;
      leaves = all_leave c.args.index.now c.new-before.result.items c.over-taker.result c.over-taker.ensures c.new-before.ensures.items;
      reading = reading_begins c.new-before.result.items c.new-entries.result.items (map (data_at c.args.table.now c.args.offset) (cells_in c.args.index.now).cells) c.new-before.ensures.items c.new-entries.ensures.items;
    }

stopped : (c : goal.After-drop-before-in_default) → map (data_at c.args.table.now c.args.offset) c.cells.invariant.left ≡ []
stopped c = ap (map (data_at c.args.table.now c.args.offset)) (stop_leaves c.cells.taker c.cells.before.items c.cells.invariant.left c.cells.invariant.leaves (omega (arith, c.left.ensures, c.cells-test.true)) (rw (c.in_default.is, c.deref.ensures.value) at c.in_ok-entry.ensures.entry))

pub returns-in_default-clause-fault : goal.returns-in_default-clause-fault
returns-in_default-clause-fault c = (reading_ends _ _ _ _ _ _ _ (stopped c) c.cells.invariant.reading).0

pub returns-in_default-clause-entries : goal.returns-in_default-clause-entries
returns-in_default-clause-entries c = (reading_ends _ _ _ _ _ _ _ (stopped c) c.cells.invariant.reading).1

pub cells-preserved : goal.cells-preserved
cells-preserved c =
    let f = data_at c.args.table.now c.args.offset in
    let moves = rw c.in-Some.is at c.in_ok-entry.ensures.moves in
    let cell = cell_read c.in-Some.entry c.next_entry.new.key.items in
    let on = one_leaves c.cells.taker c.next_entry.new.taker c.cells.before.items cell c.cells.invariant.left c.cells.invariant.leaves
    (omega (arith, c.left.ensures, c.cells-test.true)) (rw (c.in-Some.is, c.deref.ensures.value) at c.in_ok-entry.ensures.entry) moves in
    let count : c.len-from.result ≡ length c.cells.entries.items = search rules in
    let key : c.swap.new.x.items ≡ c.next_entry.new.key.items = ap (λ (v : Vec ℕ Global). v.items) c.swap.ensures.x_after in
    let P : List ℕ → Type 0 = λ k. Leaves c.next_entry.new.taker k on.more in
    let Q : List ℕ → Type 0 = λ k. Reading (fault_of c.first_of-fault.result) (c.args.offset + c.in-Some.entry.place) k c.keep_needed.new.entries.items (map f on.more) (data_fault None (map f (cells_in c.args.index.now).cells)) (entries_in (map f (cells_in c.args.index.now).cells)) in
    record {
      total = moves_total 3 c.cells.taker c.next_entry.new.taker moves ∙ c.cells.invariant.total;
      left = on.more;
      leaves = subst P (sym key) on.leaves;
      reading = subst Q (sym key) (reading_goes_on (fault_of c.cells.fault) (fault_of c.first_of-fault.result) (fault_of c.order_fault-order.result) (fault_of c.in_ok-found.found) c.cells.at c.cells.before.items c.cells.entries.items c.read_data.new.entries.items c.keep_needed.new.entries.items
          (f cell) (map f c.cells.invariant.left) (map f on.more) (data_fault None (map f (cells_in c.args.index.now).cells)) (entries_in (map f (cells_in c.args.index.now).cells))
          c.cells.invariant.reading (ap (map f) on.is) c.in_ok-found.ensures.entries
          (rw (c.deref-in-cells.ensures.value, c.deref-in-cells-2.ensures.value, c.deref-in-cells-3.ensures.value, count) at c.order_fault-order.ensures) c.in_ok-found.ensures.fault
          (c.first_of-fault.ensures ∙ ap (λ o. fault_of c.cells.fault and o) c.first_of.ensures)
          c.in_ok-keep_needed.ensures.whole c.in_ok-keep_needed.ensures.last);
    }

ended : (c : goal.After-drop-before-2) → map (data_at c.args.table.now c.args.offset) c.cells.invariant.left ≡ []
ended c = ap (map (data_at c.args.table.now c.args.offset)) (none_leave c.cells.taker c.cells.before.items c.cells.invariant.left c.cells.invariant.leaves (omega (arith, c.left.ensures, c.cells-test.false)))

pub returns-clause-fault : goal.returns-clause-fault
returns-clause-fault c = (reading_ends _ _ _ _ _ _ _ (ended c) c.cells.invariant.reading).0

pub returns-clause-entries : goal.returns-clause-entries
returns-clause-entries c = (reading_ends _ _ _ _ _ _ _ (ended c) c.cells.invariant.reading).1
