use Rattle.bl_logstore.proofs.StandLemmas.{synced_stores}
use Rattle.bl_logstore.proofs.laws.synced_stores_are_left.Goals as goal

pub returns : goal.returns
returns c = synced_stores c.batches_join.ensures.join c.logs_are_read.ensures c.synced_logs_are_left.ensures
