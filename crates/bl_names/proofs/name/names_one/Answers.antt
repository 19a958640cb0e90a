use Rattle.bl_names.proofs.NameLemmas.{names_one}
use Rattle.bl_names.proofs.name.names_one.Goals as goal

pub returns : goal.returns
returns c = names_one
