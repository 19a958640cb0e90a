use Rattle.bl_promise.proofs.EndLemmas.{answering_have_faltered, failing_have_begun, finished_have_run, served_are_obeyed}
use Rattle.bl_promise.proofs.laws.served_runs_end.Goals as goal

pub returns : goal.returns
returns g c = record {
  served = served_are_obeyed g.S.Site g.R.Source;
  finished = finished_have_run g.S.Site g.R.Source c.steady_disks_are_left.ensures.cuts c.synced_disks_keep_their_map.ensures.cuts c.logs_have_the_batches_that_remain.ensures.alike c.calls_are_lines.ensures.bytes (λ site shown certain other. g.met.S.Site.only shown site other certain);
  answering = answering_have_faltered g.S.Site g.R.Source;
  failing = failing_have_begun g.S.Site g.R.Source;
}
