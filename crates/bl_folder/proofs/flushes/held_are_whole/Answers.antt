use Rattle.bl_folder.proofs.FlushedLemmas.{held_are_whole}
use Rattle.bl_folder.proofs.flushes.held_are_whole.Goals as goal

pub returns : goal.returns
returns c = held_are_whole c.live_parts_have_a_version.ensures c.batches_join.ensures.counted
