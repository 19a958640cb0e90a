use Rattle.bl_promise.proofs.ServeLemmas.{failed_calls_serve, failed_telling_serves, failed_writes_serve, limits_serve, nothing_failed, reopening_limits_serve}
use Rattle.bl_promise.proofs.laws.failures_serve.Goals as goal

pub returns : goal.returns
returns g c =
    let order = c.calls_are_lines.ensures.order in
    record {
      writes = failed_writes_serve g.S.Site order;
      calls = failed_calls_serve g.S.Site order;
      telling = failed_telling_serves g.S.Site;
      nothing = nothing_failed g.S.Site;
      limits = limits_serve g.S.Site;
      reopening = reopening_limits_serve g.S.Site;
    }
