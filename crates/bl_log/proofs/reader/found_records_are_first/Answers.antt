use Rattle.bl_log.proofs.WithinLemmas.{found_first}
use Rattle.bl_log.proofs.reader.found_records_are_first.Goals as goal

pub returns : goal.returns
returns c = λ fed found reader reads more. found_first fed more found reader reads
