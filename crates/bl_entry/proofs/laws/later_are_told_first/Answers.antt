use Rattle.bl_entry.proofs.LaterLemmas.{later_are_told_first}
use Rattle.bl_entry.proofs.laws.later_are_told_first.Goals as goal

pub returns : goal.returns
returns c = later_are_told_first
