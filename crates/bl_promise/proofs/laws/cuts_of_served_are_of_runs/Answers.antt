use Rattle.bl_promise.proofs.EndLemmas.{cuts_are_of_run, stores_leave_logs_whole}
use Rattle.bl_promise.proofs.laws.cuts_of_served_are_of_runs.Goals as goal

pub returns : goal.returns
returns g c = record {
  cuts = cuts_are_of_run g.S.Site g.R.Source;
  whole = stores_leave_logs_whole c.steady_disks_stand.ensures.whole c.steady_disks_stand.ensures.written c.folders_stand_for_one_map.ensures.live;
}
