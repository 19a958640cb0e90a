use Rattle.bl_manifest.proofs.LawLemmas.{synced_left}
use Rattle.bl_manifest.proofs.laws.synced_manifests_are_left.Goals as goal

pub returns : goal.returns
returns c = synced_left c.files_are_read.ensures c.synced_files_are_left.ensures.files
