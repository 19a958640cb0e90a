use Rattle.bl_site_host.proofs.Sound.{sound_plain, sound_through}
use Rattle.bl_site_host.proofs.folder.Folder.names.Goals as goal

pub returns-in_err-entries-clause-sound : goal.returns-in_err-entries-clause-sound
returns-in_err-entries-clause-sound g c = λ shown sound. sound_plain _ _ _ _ _ tt (c.list.ensures shown) sound

pub returns-clause-sound : goal.returns-clause-sound
returns-clause-sound g c = λ shown sound. sound_through _ _ _ _ (c.files.ensures.goes shown) (sound_plain _ _ _ _ _ tt (c.list.ensures shown) sound)
