use Rattle.std.proofs.Common.{◌≡◌, ◌+◌, List, length, map}
use Rattle.bl_table.specs.Blocks.{Cell, entry_of, next_after}
use Rattle.bl_table.proofs.WalkLemmas.{Walks, next_of}
use Rattle.bl_table.proofs.block.Block.after.Given as goal

abbrev pub invariant-entries : goal.invariant-entries
invariant-entries l = record {
  total : l.taker.place + length l.taker.left ≡ l.self-inside.limit;
  left : List Cell;
  walks : Walks l.self-inside.offset l.taker l.before.items left;
  same : next_of l.passed l.place (map (entry_of l.self-inside.offset) left) ≡ next_after l.place l.self;
}

abbrev pub decreases-entries : goal.decreases-entries
decreases-entries l = length l.taker.left
