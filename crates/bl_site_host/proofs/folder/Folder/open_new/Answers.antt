use Rattle.bl_site_host.proofs.Sound.{sound_opened, sound_kept}
use Rattle.bl_site_host.proofs.folder.Folder.open_new.Goals as goal

pub returns-in_err-file-clause-sound : goal.returns-in_err-file-clause-sound
returns-in_err-file-clause-sound g c = λ shown sound. sound_opened _ _ _ _ _ _ (c.in_ok-is_there.ensures.seen shown) (c.open.ensures shown) (c.is_there.ensures.sound shown sound)

pub returns-in_err-keep-clause-sound : goal.returns-in_err-keep-clause-sound
returns-in_err-keep-clause-sound g c = λ shown sound. sound_kept g.S.System.id _ _ _ _ _ _ _ c.in_ok-key.ensures.ok (c.in_ok-is_there.ensures.seen shown) (c.in_ok-file.ensures shown) (c.keep.ensures.stand g.S.System.id) (c.is_there.ensures.sound shown sound)

pub returns-clause-sound : goal.returns-clause-sound
returns-clause-sound g c = λ shown sound. sound_kept g.S.System.id _ _ _ _ _ _ _ c.in_ok-key.ensures.ok (c.in_ok-is_there.ensures.seen shown) (c.in_ok-file.ensures shown) (c.keep.ensures.stand g.S.System.id) (c.is_there.ensures.sound shown sound)
