use Rattle.bl_read.proofs.SoundLemmas.{sound_given}
use Rattle.bl_read.proofs.laws.sound_folders_give_their_map.Goals as goal

pub returns : goal.returns
returns c = sound_given c.held_are_whole.ensures
