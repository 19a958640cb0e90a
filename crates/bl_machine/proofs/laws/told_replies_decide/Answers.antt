use Rattle.bl_machine.proofs.SyncedLemmas.{more_lines_keep}
use Rattle.bl_machine.proofs.ToldLemmas.{told_decides}
use Rattle.bl_machine.proofs.laws.told_replies_decide.Goals as goal

pub returns : goal.returns
returns c = record { lines = more_lines_keep; history = told_decides }
