use Rattle.bl_words.proofs.Rows.{rows}
use Rattle.bl_words.proofs.laws.words_are_worked_out.Goals as goal

pub returns : goal.returns
returns c = rows
