use Rattle.bl_logstore.proofs.StandLemmas.{damaged}
use Rattle.bl_logstore.proofs.laws.damaged_do_not_stand.Goals as goal

pub returns : goal.returns
returns c = damaged c.batches_join.ensures.join c.placed_records_are_records.ensures
