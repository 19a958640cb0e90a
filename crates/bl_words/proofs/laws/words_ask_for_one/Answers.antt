use Rattle.bl_words.proofs.LawLemmas.{one}
use Rattle.bl_words.proofs.laws.words_ask_for_one.Goals as goal

pub returns : goal.returns
returns c = one
