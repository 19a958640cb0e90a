use Rattle.std.proofs.Common.{arith, refl, ap, not, drop}
use Rattle.bl_log.proofs.StepLemmas.{runs_nowhere, to_end, step_ends, step_reads, reads_last, reads_on}
use Rattle.bl_log.proofs.seek.step.Goals as goal

pub returns-in-Ends-clause-ok : goal.returns-in-Ends-clause-ok
returns-in-Ends-clause-ok c = (
  runs_nowhere _ _ _ (omega arith),
  step_ends c.args.at.now.place c.filler_before-filler.result _ c.args.at.now.begun c.args.half.now.items (drop c.args.at.now.read c.args.held.now) _ _ c.in-Ends.cause
      (omega arith) (to_end c.args.at.now.read c.args.held.now) (to_end c.filler_before-filler.result _) c.filler_before-filler.ensures refl c.in-Ends.ensures.stands,
  c.requires.fresh,
)

pub returns-then-last-clause-ok : goal.returns-then-last-clause-ok
returns-then-last-clause-ok c = (
  reads_last c.in-Fragment.last _ _ _ _ _ _ c.if-last.true
      (step_reads c.args.at.now.place c.args.at.now.read c.filler_before-filler.result _ _ c.in-Fragment.size _ c.in-Fragment.last c.args.at.now.begun c.args.half.now.items c.extend_from_slice.new.self.items c.args.held.now _ _
      (omega arith) (to_end c.args.at.now.read c.args.held.now) (to_end c.filler_before-filler.result _) c.filler_before-filler.ensures refl c.in-Fragment.ensures.stands c.in-Fragment.ensures.within
      c.requires.fresh c.in_ok-extend_from_slice-in-Fragment.ensures.items refl refl),
  ap not c.if-last.true,
)

pub returns-else-last-clause-ok : goal.returns-else-last-clause-ok
returns-else-last-clause-ok c = (
  reads_on c.in-Fragment.last _ _ _ _ _ _ c.if-last.false
      (step_reads c.args.at.now.place c.args.at.now.read c.filler_before-filler.result _ _ c.in-Fragment.size _ c.in-Fragment.last c.args.at.now.begun c.args.half.now.items c.extend_from_slice.new.self.items c.args.held.now _ _
      (omega arith) (to_end c.args.at.now.read c.args.held.now) (to_end c.filler_before-filler.result _) c.filler_before-filler.ensures refl c.in-Fragment.ensures.stands c.in-Fragment.ensures.within
      c.requires.fresh c.in_ok-extend_from_slice-in-Fragment.ensures.items refl refl),
  ap not c.if-last.false,
)
