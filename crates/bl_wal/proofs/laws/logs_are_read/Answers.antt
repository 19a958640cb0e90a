use Rattle.bl_wal.proofs.LawLemmas.{logs_read}
use Rattle.bl_wal.proofs.laws.logs_are_read.Goals as goal

pub returns : goal.returns
returns c = logs_read c.files_are_read.ensures
