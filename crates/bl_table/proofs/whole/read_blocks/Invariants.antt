use Rattle.std.proofs.Common.{◌≡◌, ◌+◌, List, length, map, None}
use Rattle.bl_table.specs.Steps.{fault_of}
use Rattle.bl_table.specs.Blocks.{Cell, cells_in}
use Rattle.bl_table.specs.Whole.{data_at, data_fault}
use Rattle.bl_table.proofs.WholeLemmas.{Leaves}
use Rattle.bl_table.proofs.ReadLemmas.{Reading, entries_in}
use Rattle.bl_table.proofs.whole.read_blocks.Given as goal

abbrev pub invariant-cells : goal.invariant-cells
invariant-cells l = record {
  total : l.taker.place + length l.taker.left ≡ length l.index;
  left : List Cell;
  leaves : Leaves l.taker l.before.items left;
  reading : Reading (fault_of l.fault) l.at l.before.items l.entries.items (map (data_at l.table l.offset) left) (data_fault None (map (data_at l.table l.offset) (cells_in l.index).cells)) (entries_in (map (data_at l.table l.offset) (cells_in l.index).cells));
}

abbrev pub decreases-cells : goal.decreases-cells
decreases-cells l = length l.taker.left
