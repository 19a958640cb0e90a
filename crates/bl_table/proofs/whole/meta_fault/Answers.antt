use Rattle.bl_table.specs.Steps.{cell_read}
use Rattle.bl_table.proofs.WholeLemmas.{no_first, some_first, meta_without, meta_with}
use Rattle.bl_table.proofs.whole.meta_fault.Goals as goal

pub returns-in_default-2 : goal.returns-in_default-2
returns-in_default-2 c =
    meta_without c.args.table.now c.in-Some.handle c.args.meta c.in_ok-block.block c.in-Some.is c.in_ok-block.ensures.found
    (no_first c.in_ok-block.block.entries.now c.over-taker.result c.over-taker.ensures (rw c.in_default-2.is at c.in_ok-entry.ensures.entry))

pub returns : goal.returns
returns c =
    let cell = cell_read c.in-Some-2.entry c.next_entry.new.key.items in
    let some = some_first c.in_ok-block.block.entries.now c.over-taker.result c.next_entry.new.taker cell c.over-taker.ensures (rw c.in-Some-2.is at c.in_ok-entry.ensures.entry) (rw c.in-Some-2.is at c.in_ok-entry.ensures.moves) in
    meta_with c.args.table.now c.in-Some.handle c.args.meta c.in_ok-block.block cell some.0 _ c.in-Some.is c.in_ok-block.ensures.found some.1 c.first_of.ensures
