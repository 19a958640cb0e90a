use Rattle.bl_folder.proofs.RemainLemmas.{logs_alike, logs_split}
use Rattle.bl_folder.proofs.flushes.logs_have_the_batches_that_remain.Goals as goal

pub returns : goal.returns
returns c = record { split = logs_split c.batches_join.ensures.join; alike = logs_alike }
