use Rattle.std.proofs.Common.{refl}
use Rattle.bl_site_host.proofs.Sound.{sound_plain, sound_used}
use Rattle.bl_site_host.proofs.folder.Folder.settle.Goals as goal

pub returns-clause-sound : goal.returns-clause-sound
returns-clause-sound g c = λ shown sound. sound_plain _ _ _ _ _ tt (c.sync_file-written.ensures shown) (sound_used g.S.System.id _ _ _ _ _ c.in-Some.ensures.0 c.index_mut-handle.ensures.value refl refl sound)
