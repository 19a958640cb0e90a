use Rattle.bl_code.proofs.ReadingLemmas.{varint32_is, varint64_is}
use Rattle.bl_code.proofs.laws.varints_are_spelled.Goals as goal

pub returns : goal.returns
returns c = (varint32_is, varint64_is)
