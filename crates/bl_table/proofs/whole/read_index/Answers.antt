use Rattle.std.proofs.Common.{refl}
use Rattle.bl_table.specs.Whole.{data_fault}
use Rattle.bl_table.proofs.whole.read_index.Goals as goal

pub returns-in_default-clause-fault : goal.returns-in_default-clause-fault
unfolding data_fault
returns-in_default-clause-fault c = rw c.in_default.is refl
