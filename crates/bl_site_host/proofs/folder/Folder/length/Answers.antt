use Rattle.bl_site_host.proofs.Sound.{sound_plain}
use Rattle.bl_site_host.proofs.folder.Folder.length.Goals as goal

pub returns-in_err-look-clause-sound : goal.returns-in_err-look-clause-sound
returns-in_err-look-clause-sound g c = λ shown sound. sound_plain _ _ _ _ _ tt (c.look.ensures shown) sound

pub returns-in-Nothing-clause-sound : goal.returns-in-Nothing-clause-sound
returns-in-Nothing-clause-sound g c = λ shown sound. sound_plain _ _ _ _ _ tt (c.look.ensures shown) sound

pub returns-in-File-clause-sound : goal.returns-in-File-clause-sound
returns-in-File-clause-sound g c = λ shown sound. sound_plain _ _ _ _ _ tt (c.look.ensures shown) sound

pub returns-in-Other-clause-sound : goal.returns-in-Other-clause-sound
returns-in-Other-clause-sound g c = λ shown sound. sound_plain _ _ _ _ _ tt (c.look.ensures shown) sound
