use Rattle.bl_shell.proofs.LawLemmas.{syncs_kept}
use Rattle.bl_shell.proofs.laws.told_syncs_are_kept.Goals as goal

pub returns : goal.returns
returns c = syncs_kept c.batches_are_once.ensures
