use Rattle.bl_store.proofs.ReadLemmas.{stores_give}
use Rattle.bl_store.proofs.read.stores_give_their_map.Goals as goal

pub returns : goal.returns
returns c = stores_give c.folders_stand_for_one_map.ensures.holding c.memories_tell_what_was_inserted.ensures.memory c.sound_folders_give_their_map.ensures c.steady_disks_stand.ensures.hold c.steady_disks_stand.ensures.stand
