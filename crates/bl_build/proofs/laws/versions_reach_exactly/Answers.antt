use Rattle.bl_build.proofs.Reaching.{folds_are_versions, reaches_exactly}
use Rattle.bl_build.proofs.laws.versions_reach_exactly.Goals as goal

pub returns : goal.returns
returns c = record { versions = folds_are_versions; reach = reaches_exactly }
