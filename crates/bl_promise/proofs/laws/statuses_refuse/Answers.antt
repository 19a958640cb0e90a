use Rattle.bl_promise.proofs.RefuseLemmas.{corrupt_refuse, differ_refuse, failures_refuse, foreign_are_found, foreign_are_not_own, full_refuse, opened_refuse}
use Rattle.bl_promise.proofs.laws.statuses_refuse.Goals as goal

pub returns : goal.returns
returns g c =
    let one = c.refusals_are_one.ensures.one in
    let full = c.refusals_are_one.ensures.full in
    record {
      opened = opened_refuse g.S.Site g.R.Source;
      full = full_refuse g.S.Site g.R.Source full;
      differ = differ_refuse g.S.Site g.R.Source one full;
      corrupt = corrupt_refuse g.S.Site g.R.Source one;
      failures = failures_refuse g.S.Site g.R.Source;
      found = foreign_are_found;
      own = foreign_are_not_own;
    }
