use Rattle.std.proofs.Common.{arith, sym}
use Rattle.bl_build.proofs.Fronting.{halves_end}
use Rattle.bl_build.proofs.overlap.first_overlap.Goals as goal

pub returns : goal.returns
returns c = sym (halves_end c.args.left.now c.args.added.now c.loop-over.apart c.loop-over.over c.index-added-apart.result c.loop-over.invariant (omega (arith, c.loop-over-test.false)))
