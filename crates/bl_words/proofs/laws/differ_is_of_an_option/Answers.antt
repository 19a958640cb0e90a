use Rattle.bl_words.proofs.LawLemmas.{differs}
use Rattle.bl_words.proofs.laws.differ_is_of_an_option.Goals as goal

pub returns : goal.returns
returns c = differs
