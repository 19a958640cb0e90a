use Rattle.bl_open.proofs.DamageLemmas.{lacking_not_fresh, lacking_not_live}
use Rattle.bl_open.proofs.damage.lacking_folders_are_not_live.Goals as goal

pub returns-clause-fresh : goal.returns-clause-fresh
returns-clause-fresh c = lacking_not_fresh

pub returns-clause-live : goal.returns-clause-live
returns-clause-live c = lacking_not_live c.text_names_one.ensures c.bytes_are_decided.ensures.not_both
