use Rattle.bl_open.proofs.DamageLemmas.{damage_one}
use Rattle.bl_open.proofs.WholeLemmas.{fresh_not_damaged, passing_not_damaged, sound_not_damaged}
use Rattle.bl_open.proofs.damage.damage_is_one.Goals as goal

pub returns-clause-one : goal.returns-clause-one
returns-clause-one c =
    damage_one c.batches_join.ensures.join c.placed_records_are_records.ensures c.text_names_one.ensures c.bytes_are_decided.ensures.one_place c.bytes_are_decided.ensures.not_both
    c.folders_stand_for_one_map.ensures.live c.live_parts_have_a_version.ensures

pub returns-clause-sound : goal.returns-clause-sound
returns-clause-sound c =
    sound_not_damaged c.batches_join.ensures.join c.placed_records_are_records.ensures c.text_names_one.ensures c.bytes_are_decided.ensures.not_both c.folders_stand_for_one_map.ensures.live
    c.tables_are_read_block_by_block.ensures

pub returns-clause-fresh : goal.returns-clause-fresh
returns-clause-fresh c = fresh_not_damaged

pub returns-clause-passing : goal.returns-clause-passing
returns-clause-passing c =
    passing_not_damaged c.batches_join.ensures.join c.placed_records_are_records.ensures c.text_names_one.ensures c.bytes_are_decided.ensures.not_both c.folders_stand_for_one_map.ensures.live
