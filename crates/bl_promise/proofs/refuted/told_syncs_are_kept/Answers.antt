use Rattle.bl_promise.proofs.RefutedLemmas.{no_reply_before, syncs_kept}
use Rattle.bl_promise.proofs.refuted.told_syncs_are_kept.Goals as goal

pub returns : goal.returns
returns c = record { syncs = syncs_kept; barrier = no_reply_before }
