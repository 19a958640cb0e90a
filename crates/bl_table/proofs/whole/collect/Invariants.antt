use Rattle.std.proofs.Common.{◌≡◌, ◌+◌, ◌++◌, List, length, map}
use Rattle.bl_table.specs.Blocks.{Cell, cells_in, entry_of}
use Rattle.bl_table.proofs.WholeLemmas.{Leaves}
use Rattle.bl_table.proofs.whole.collect.Given as goal

abbrev pub invariant-cells : goal.invariant-cells
invariant-cells l = record {
  total : l.taker.place + length l.taker.left ≡ length l.bytes;
  left : List Cell;
  leaves : Leaves l.taker l.before.items left;
  same : l.entries.items ++ map (entry_of l.offset) left ≡ l.fn.entries.items ++ map (entry_of l.offset) (cells_in l.bytes).cells;
}

abbrev pub decreases-cells : goal.decreases-cells
decreases-cells l = length l.taker.left
