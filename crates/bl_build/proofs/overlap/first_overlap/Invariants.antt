use Rattle.std.proofs.Common.{◌-◌}
use Rattle.bl_build.proofs.Fronting.{Halves}
use Rattle.bl_build.proofs.overlap.first_overlap.Given as goal

abbrev pub invariant-loop-over : goal.invariant-loop-over
invariant-loop-over l = Halves l.left l.added l.apart l.over

abbrev pub decreases-loop-over : goal.decreases-loop-over
decreases-loop-over l = l.over - l.apart
