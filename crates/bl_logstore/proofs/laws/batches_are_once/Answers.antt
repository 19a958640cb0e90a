use Rattle.bl_logstore.proofs.LogLemmas.{once}
use Rattle.bl_logstore.proofs.laws.batches_are_once.Goals as goal

pub returns : goal.returns
returns c = once
