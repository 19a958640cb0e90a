use Rattle.std.proofs.Common.{length}
use Rattle.bl_edit.proofs.Fields.{Goes}
use Rattle.bl_edit.proofs.decode.decode_edit.Given as goal

abbrev pub invariant-loop-taker : goal.invariant-loop-taker
invariant-loop-taker l = Goes l.bytes l.taker l.edit

abbrev pub decreases-loop-taker : goal.decreases-loop-taker
decreases-loop-taker l = length l.taker.left
