use Rattle.std.proofs.Common.{length}
use Rattle.bl_edit.proofs.Customs.{PassesOn}
use Rattle.bl_edit.proofs.field.pass_customs.Given as goal

abbrev pub invariant-loop-tag : goal.invariant-loop-tag
invariant-loop-tag l = PassesOn l.initial.taker l.taker

abbrev pub decreases-loop-tag : goal.decreases-loop-tag
decreases-loop-tag l = length l.taker.left
