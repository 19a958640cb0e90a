use Rattle.std.proofs.Common.{arith}
use Rattle.bl_code.proofs.VarintLemmas.{room_of_32}
use Rattle.bl_code.proofs.put.put_varint32.Goals as goal

pub returns-clause-ok : goal.returns-clause-ok
returns-clause-ok c = rw (← room_of_32 c.args.value (omega arith)) (search arith)
