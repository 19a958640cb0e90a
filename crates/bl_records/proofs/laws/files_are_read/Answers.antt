use Rattle.bl_records.proofs.LawLemmas.{WrittenIsLog, LogIsRead, files_read}
use Rattle.bl_records.proofs.laws.files_are_read.Goals as goal

pub returns : goal.returns
unfolding WrittenIsLog LogIsRead
returns c = files_read c.written_is_log.ensures c.log_is_read.ensures
