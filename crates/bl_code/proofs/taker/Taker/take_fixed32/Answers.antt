use Rattle.std.proofs.Common.{arith}
use Rattle.bl_code.proofs.TakeLemmas.{length_taken}
use Rattle.bl_code.proofs.taker.Taker.take_fixed32.Goals as goal

pub read_u32-requires : goal.read_u32-requires
read_u32-requires c = omega (arith, length_taken 4 c.args.self.now c.take_bytes.new.self c.in_ok-bytes.bytes.now c.in_ok-bytes.ensures)
