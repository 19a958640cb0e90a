use Rattle.bl_records.proofs.LawLemmas.{WrittenIsLog, LogIsRead, LogIsReadFirst, OnlyWrittenIsFirst, remnants_read, cut_reads, appends_read}
use Rattle.bl_records.proofs.laws.cut_files_read_as_fronts.Goals as goal

pub returns-clause-remnants : goal.returns-clause-remnants
unfolding WrittenIsLog LogIsRead LogIsReadFirst OnlyWrittenIsFirst
returns-clause-remnants c = remnants_read c.written_is_log.ensures c.log_is_read.ensures c.log_is_read_first.ensures c.only_written_is_read_first.ensures

pub returns-clause-fronts : goal.returns-clause-fronts
unfolding WrittenIsLog LogIsRead LogIsReadFirst OnlyWrittenIsFirst
returns-clause-fronts c = cut_reads c.written_is_log.ensures c.log_is_read.ensures c.log_is_read_first.ensures c.only_written_is_read_first.ensures

pub returns-clause-during : goal.returns-clause-during
unfolding WrittenIsLog LogIsRead LogIsReadFirst OnlyWrittenIsFirst
returns-clause-during c = appends_read c.written_is_log.ensures c.log_is_read.ensures c.log_is_read_first.ensures c.only_written_is_read_first.ensures
