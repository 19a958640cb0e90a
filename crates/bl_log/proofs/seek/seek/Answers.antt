use Rattle.std.proofs.Common.{arith, take_all}
use Rattle.bl_log.proofs.StepLemmas.{runs_nowhere, runs_then, seeks_then, still_front}
use Rattle.bl_log.proofs.seek.seek.Goals as goal

pub fragments-init : goal.fragments-init
fragments-init c = record {
  within = c.requires.within;
  fresh = c.requires.fresh;
  reaches = runs_nowhere _ _ _ (omega arith);
  longer = omega arith;
  front = take_all _ _ (omega arith);
}

pub returns-in-Some-clause-ok : goal.returns-in-Some-clause-ok
returns-in-Some-clause-ok c =
    seeks_then c.in-Some.sought c.args.held.now c.args.at.now c.fragments.at c.step.new.at c.args.half.now.items c.fragments.half.items c.step.new.half.items
    c.fragments.invariant.reaches (rw c.in-Some.is at c.in_ok-sought.ensures.ok)

pub fragments-preserved : goal.fragments-preserved
fragments-preserved c =
    let moves = rw c.in_default.is at c.in_ok-sought.ensures.ok in
    record {
      within = c.step.ensures.within;
      fresh = λ e. absurd (let t = moves.1 in cc);
      reaches = runs_then _ _ _ _ _ _ _ _ _ _ c.fragments.invariant.reaches moves.0;
      longer = omega arith;
      front = still_front _ _ _ c.fragments.invariant.longer c.fragments.invariant.front c.step.ensures.front.0 c.step.ensures.front.1;
    }
