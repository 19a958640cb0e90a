use Rattle.bl_logstore.proofs.StandLemmas.{stores_stand}
use Rattle.bl_logstore.proofs.laws.stores_stand.Goals as goal

pub returns : goal.returns
returns c = stores_stand c.batches_join.ensures.join c.logs_are_read.ensures
