use Rattle.bl_open.proofs.WholeLemmas.{first_number}
use Rattle.bl_open.proofs.damage.first_number_is_behind_all.Goals as goal

pub returns : goal.returns
returns c = first_number
