use Rattle.bl_machine.proofs.HistoryLemmas.{maps_follow, others_keep_files}
use Rattle.bl_machine.proofs.laws.lines_change_what_they_say.Goals as goal

pub returns : goal.returns
returns c = record { maps = maps_follow; files = others_keep_files }
