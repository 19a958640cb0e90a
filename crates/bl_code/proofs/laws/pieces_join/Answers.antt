use Rattle.bl_code.proofs.CrcLemmas.{crc_after-append}
use Rattle.bl_code.proofs.laws.pieces_join.Goals as goal

pub returns : goal.returns
returns c = crc_after-append
