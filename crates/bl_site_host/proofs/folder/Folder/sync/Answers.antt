use Rattle.std.proofs.Common.{refl}
use Rattle.bl_site_host.specs.Events.{SyncedFile}
use Rattle.bl_site_host.specs.Handles.{IsPlaceOf}
use Rattle.bl_site_host.proofs.Sound.{at_some, is_on, on_synced, sound_plain, sound_used, stands_at}
use Rattle.bl_site_host.proofs.folder.Folder.sync.Goals as goal

pub returns-clause-file : goal.returns-clause-file
returns-clause-file g c = λ shown sound.
    let place = at_some (IsPlaceOf c.args.name.now c.opened.new.self.handles.open.items) _ _ c.in-Some.is c.in_ok-at.ensures.place in
    on_synced _ _ _ c.synced.ensures.done (λ good. is_on c.args.name.now SyncedFile _ _ _ _ _ (c.sync_file-done.ensures shown) (c.opened.ensures.grows shown)
    (stands_at g.S.System.id _ _ _ _ _ place c.index_mut-handle.ensures.value (c.opened.ensures.sound shown sound)) good)

pub returns-clause-sound : goal.returns-clause-sound
returns-clause-sound g c = λ shown sound.
    let place = at_some (IsPlaceOf c.args.name.now c.opened.new.self.handles.open.items) _ _ c.in-Some.is c.in_ok-at.ensures.place in
    sound_plain _ _ _ _ _ tt (c.sync_file-done.ensures shown) (sound_used g.S.System.id _ _ _ _ _ place.0 c.index_mut-handle.ensures.value refl refl (c.opened.ensures.sound shown sound))
