use Rattle.std.proofs.Common.{arith}
use Rattle.bl_code.specs.Crc.{mask_of, unmask_of}
use Rattle.bl_code.proofs.laws.unmask_undoes_mask.Goals as goal

pub returns : goal.returns
unfolding mask_of unmask_of
returns c = λ x h. omega arith
