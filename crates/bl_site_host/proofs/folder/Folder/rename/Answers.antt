use Rattle.std.proofs.Common.{subst}
use Rattle.bl_site_host.specs.Events.{SomeSyncFailed}
use Rattle.bl_site_host.proofs.Sound.{sound_moved}
use Rattle.bl_site_host.proofs.folder.Folder.rename.Goals as goal

pub returns-in_err-changed-clause-sound : goal.returns-in_err-changed-clause-sound
returns-in_err-changed-clause-sound g c = λ shown sound. sound_moved g.S.System.id _ _ _ _ _ _ _ _ c.close.ensures.gone (c.close.ensures.stand g.S.System.id) c.close-2.ensures.gone (c.close-2.ensures.stand g.S.System.id)
    (c.rename.ensures shown) (c.settle.ensures.sound shown (c.is_there-2.ensures.sound shown (c.is_there.ensures.sound shown sound)))

pub returns-clause-sound : goal.returns-clause-sound
returns-clause-sound g c = λ shown sound. c.sync_names.ensures.sound shown (sound_moved g.S.System.id _ _ _ _ _ _ _ _ c.close.ensures.gone (c.close.ensures.stand g.S.System.id) c.close-2.ensures.gone (c.close-2.ensures.stand g.S.System.id)
    (c.rename.ensures shown) (c.settle.ensures.sound shown (c.is_there-2.ensures.sound shown (c.is_there.ensures.sound shown sound))))

pub returns-clause-marked : goal.returns-clause-marked
returns-clause-marked g c = λ shown marked. c.sync_names.ensures.marked shown
    (λ failed. c.settle.ensures.marked shown (c.is_there-2.ensures.marked shown (c.is_there.ensures.marked shown marked)) (subst SomeSyncFailed (c.rename.ensures shown) failed))

pub returns-in_err-settle-clause-marked : goal.returns-in_err-settle-clause-marked
returns-in_err-settle-clause-marked g c = λ shown marked. c.settle.ensures.marked shown (c.is_there-2.ensures.marked shown (c.is_there.ensures.marked shown marked))

pub returns-in_err-changed-clause-marked : goal.returns-in_err-changed-clause-marked
returns-in_err-changed-clause-marked g c = λ shown marked failed. c.settle.ensures.marked shown (c.is_there-2.ensures.marked shown (c.is_there.ensures.marked shown marked)) (subst SomeSyncFailed (c.rename.ensures shown) failed)
