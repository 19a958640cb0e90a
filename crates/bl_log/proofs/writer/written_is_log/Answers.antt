use Rattle.std.proofs.Common.{refl}
use Rattle.bl_log.proofs.LayoutLemmas.{written_gives}
use Rattle.bl_log.proofs.writer.written_is_log.Goals as goal

pub returns : goal.returns
returns c = λ payloads. written_gives payloads 0 0 refl
