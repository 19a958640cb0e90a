use Rattle.std.proofs.Common.{arith}
use Rattle.bl_code.proofs.TakeLemmas.{length_taken}
use Rattle.bl_code.proofs.taker.Taker.take_fixed64.Goals as goal

pub read_u64-requires : goal.read_u64-requires
read_u64-requires c = omega (arith, length_taken 8 c.args.self.now c.take_bytes.new.self c.in_ok-bytes.bytes.now c.in_ok-bytes.ensures)
