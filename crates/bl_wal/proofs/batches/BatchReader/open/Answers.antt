use Rattle.std.proofs.Common.{refl}
use Rattle.bl_wal.proofs.ProgressLemmas.{begins}
use Rattle.bl_wal.proofs.batches.BatchReader.open.Goals as goal

pub returns-clause-begins : goal.returns-clause-begins
returns-clause-begins c = λ file. begins c.args.last file (record { records = c.in_ok-records.records; last = c.args.last }) (c.in_ok-records.ensures.begins file) refl
