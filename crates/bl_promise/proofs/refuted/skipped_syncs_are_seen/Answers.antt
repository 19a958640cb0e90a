use Rattle.bl_promise.proofs.RefutedLemmas.{skipped_seen}
use Rattle.bl_promise.proofs.refuted.skipped_syncs_are_seen.Goals as goal

pub returns : goal.returns
returns c = skipped_seen
