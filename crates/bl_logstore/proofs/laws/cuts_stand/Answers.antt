use Rattle.bl_logstore.proofs.StandLemmas.{cuts_stand}
use Rattle.bl_logstore.proofs.laws.cuts_stand.Goals as goal

pub returns : goal.returns
returns c = cuts_stand c.batches_join.ensures.join c.cut_logs_read_as_fronts.ensures c.records_are_batches.ensures.fronts
