use Rattle.bl_manifest.proofs.LawLemmas.{manifests_read}
use Rattle.bl_manifest.proofs.laws.manifests_are_read.Goals as goal

pub returns : goal.returns
returns c = manifests_read c.files_are_read.ensures
