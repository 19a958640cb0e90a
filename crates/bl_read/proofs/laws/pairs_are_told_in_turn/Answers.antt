use Rattle.bl_read.proofs.TurnLemmas.{pairs_in_turn}
use Rattle.bl_read.proofs.laws.pairs_are_told_in_turn.Goals as goal

pub returns : goal.returns
returns c = pairs_in_turn
