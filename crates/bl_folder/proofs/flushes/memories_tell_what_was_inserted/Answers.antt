use Rattle.bl_folder.proofs.InsertedLemmas.{batches_are_in_bounds, held_is_memory}
use Rattle.bl_folder.proofs.flushes.memories_tell_what_was_inserted.Goals as goal

pub returns : goal.returns
returns c = record { bounds = batches_are_in_bounds c.batches_are_read.ensures.exact; memory = held_is_memory c.entries_are_revisions.ensures }
