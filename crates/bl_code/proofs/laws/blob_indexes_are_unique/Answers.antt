use Rattle.bl_code.proofs.ReadingLemmas.{blob_index_spelled, blob_index_unique}
use Rattle.bl_code.proofs.laws.blob_indexes_are_unique.Goals as goal

pub returns-clause-spelled : goal.returns-clause-spelled
returns-clause-spelled c = blob_index_spelled

pub returns-clause-unique : goal.returns-clause-unique
returns-clause-unique c = blob_index_unique
