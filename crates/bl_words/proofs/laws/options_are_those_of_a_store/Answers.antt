use Rattle.bl_words.proofs.LawLemmas.{options}
use Rattle.bl_words.proofs.laws.options_are_those_of_a_store.Goals as goal

pub returns : goal.returns
returns c = options
