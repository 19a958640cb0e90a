use Rattle.bl_open.proofs.RefusalLemmas.{damaged_of, full_not_refused, refusal_is_one}
use Rattle.bl_open.proofs.damage.refusals_are_one.Goals as goal

pub returns-clause-one : goal.returns-clause-one
returns-clause-one c = refusal_is_one c.damage_is_one.ensures.one c.folders_stand_for_one_map.ensures.live c.lacking_folders_are_not_live.ensures.live

pub returns-clause-sound : goal.returns-clause-sound
returns-clause-sound c = λ folder words name place sound refused. c.damage_is_one.ensures.sound folder name place sound (damaged_of folder words name place refused)

pub returns-clause-full : goal.returns-clause-full
returns-clause-full c = full_not_refused c.lacking_folders_are_not_live.ensures.fresh c.folders_stand_for_one_map.ensures.live c.lacking_folders_are_not_live.ensures.live c.damage_is_one.ensures.passing
