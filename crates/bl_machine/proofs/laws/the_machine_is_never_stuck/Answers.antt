use Rattle.bl_machine.proofs.HistoryLemmas.{lines_go_on, fronts_go_on}
use Rattle.bl_machine.proofs.laws.the_machine_is_never_stuck.Goals as goal

pub returns : goal.returns
returns c = record { line = lines_go_on; script = fronts_go_on }
