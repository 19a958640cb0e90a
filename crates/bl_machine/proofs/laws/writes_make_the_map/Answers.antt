use Rattle.bl_machine.proofs.WriteLemmas.{writes_make}
use Rattle.bl_machine.proofs.laws.writes_make_the_map.Goals as goal

pub returns : goal.returns
returns c = writes_make c.operations_change_the_map.ensures
