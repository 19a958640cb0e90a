use Rattle.bl_wal.proofs.LawLemmas.{cut_reads}
use Rattle.bl_wal.proofs.laws.cut_logs_read_as_fronts.Goals as goal

pub returns : goal.returns
returns c = cut_reads c.cut_files_read_as_fronts.ensures.fronts
