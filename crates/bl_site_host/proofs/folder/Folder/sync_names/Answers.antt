use Rattle.bl_site_host.proofs.Sound.{sound_plain}
use Rattle.bl_site_host.proofs.folder.Folder.sync_names.Goals as goal

pub returns-clause-sound : goal.returns-clause-sound
returns-clause-sound g c = λ shown sound. sound_plain _ _ _ _ _ tt (c.sync_folder-done.ensures shown) sound
