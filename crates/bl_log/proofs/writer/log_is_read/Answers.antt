use Rattle.bl_log.proofs.WalkLemmas.{log_records}
use Rattle.bl_log.proofs.writer.log_is_read.Goals as goal

pub returns : goal.returns
returns c = log_records
