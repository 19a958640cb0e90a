use Rattle.std.proofs.Common.{length}
use Rattle.bl_edit.proofs.Customs.{GoesOn}
use Rattle.bl_edit.proofs.field.take_oldest.Given as goal

abbrev pub invariant-loop-tag : goal.invariant-loop-tag
invariant-loop-tag l = GoesOn l.initial.taker l.taker l.oldest

abbrev pub decreases-loop-tag : goal.decreases-loop-tag
decreases-loop-tag l = length l.taker.left
