use Rattle.bl_log.proofs.WithinLemmas.{log_first}
use Rattle.bl_log.proofs.writer.log_is_read_first.Goals as goal

pub returns : goal.returns
returns c = λ bytes payloads log more. log_first bytes more payloads log
