use Rattle.bl_wal.proofs.LawLemmas.{fronts_read, next_is_read}
use Rattle.bl_wal.proofs.laws.records_are_batches.Goals as goal

pub returns-clause-fronts : goal.returns-clause-fronts
returns-clause-fronts c = fronts_read

pub returns-clause-next : goal.returns-clause-next
returns-clause-next c = next_is_read c.batches_join.ensures.join
