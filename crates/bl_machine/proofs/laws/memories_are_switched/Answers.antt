use Rattle.bl_machine.proofs.RowLemmas.{second_put_switches, flush_empties}
use Rattle.bl_machine.proofs.laws.memories_are_switched.Goals as goal

pub returns : goal.returns
returns c = record { switches = second_put_switches; empties = flush_empties }
