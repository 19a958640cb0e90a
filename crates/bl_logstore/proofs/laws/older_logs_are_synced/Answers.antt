use Rattle.bl_logstore.proofs.StandLemmas.{older_synced}
use Rattle.bl_logstore.proofs.laws.older_logs_are_synced.Goals as goal

pub returns : goal.returns
returns c = older_synced
