use Rattle.bl_records.proofs.LawLemmas.{remnants_whole, synced_left}
use Rattle.bl_records.proofs.laws.synced_files_are_left.Goals as goal

pub returns-clause-remnants : goal.returns-clause-remnants
returns-clause-remnants c = remnants_whole

pub returns-clause-files : goal.returns-clause-files
returns-clause-files c = synced_left
