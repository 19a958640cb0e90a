use Rattle.bl_compacted.proofs.HeldLemmas.{held_by}
use Rattle.bl_compacted.proofs.laws.folders_are_held.Goals as goal

pub returns : goal.returns
returns c = held_by c.tables_are_read_block_by_block.ensures c.live_parts_have_a_version.ensures c.batches_join.ensures.counted
