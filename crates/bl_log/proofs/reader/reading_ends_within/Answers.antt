use Rattle.bl_log.proofs.WithinLemmas.{ending_within}
use Rattle.bl_log.proofs.reader.reading_ends_within.Goals as goal

pub returns : goal.returns
returns c = ending_within
