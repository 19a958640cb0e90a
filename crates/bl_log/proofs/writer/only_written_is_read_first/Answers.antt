use Rattle.bl_log.proofs.WrittenLemmas.{only_written_first}
use Rattle.bl_log.proofs.writer.only_written_is_read_first.Goals as goal

pub returns : goal.returns
returns c = λ bytes all each. only_written_first bytes all each
