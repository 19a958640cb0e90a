use Rattle.bl_manifest.proofs.LawLemmas.{cut_reads, appends_read}
use Rattle.bl_manifest.proofs.laws.cut_manifests_read_as_fronts.Goals as goal

pub returns-clause-fronts : goal.returns-clause-fronts
returns-clause-fronts c = cut_reads c.cut_files_read_as_fronts.ensures.fronts

pub returns-clause-during : goal.returns-clause-during
returns-clause-during c = appends_read c.cut_files_read_as_fronts.ensures.during
