use Rattle.bl_names.proofs.NameLemmas.{text_names_one}
use Rattle.bl_names.proofs.name.text_names_one.Goals as goal

pub returns : goal.returns
returns c = text_names_one
