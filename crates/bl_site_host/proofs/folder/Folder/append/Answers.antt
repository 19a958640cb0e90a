use Rattle.std.proofs.Common.{◌∙◌, List, ◌∷◌, is_ok, ap, refl}
use Rattle.bl_site_host.specs.Events.{Event, Wrote}
use Rattle.bl_site_host.specs.Changes.{changes_of, IsWriting}
use Rattle.bl_site_host.specs.Handles.{IsPlaceOf}
use Rattle.bl_site_host.proofs.Changed.{one_at}
use Rattle.bl_site_host.proofs.Sound.{at_some, is_on, on_changed, sound_plain, sound_used, stands_at}
use Rattle.bl_site_host.proofs.folder.Folder.append.Goals as goal

pub returns-clause-bytes : goal.returns-clause-bytes
returns-clause-bytes g c = λ shown sound.
    let place = at_some (IsPlaceOf c.args.name.now c.opened.new.self.handles.open.items) _ _ c.in-Some.is c.in_ok-at.ensures.place in
    on_changed _ _ _ c.changed.ensures.answered (λ good. is_on c.args.name.now (λ file ok. Wrote file c.args.bytes.now ok) _ _ _ _ _ (c.append.ensures.calls shown) (c.opened.ensures.grows shown)
    (stands_at g.S.System.id _ _ _ _ _ place c.index_mut-handle.ensures.value (c.opened.ensures.sound shown sound)) good)

pub returns-clause-sound : goal.returns-clause-sound
returns-clause-sound g c = λ shown sound.
    let place = at_some (IsPlaceOf c.args.name.now c.opened.new.self.handles.open.items) _ _ c.in-Some.is c.in_ok-at.ensures.place in
    sound_plain _ _ _ _ _ tt (c.append.ensures.calls shown) (sound_used g.S.System.id _ _ _ _ _ place.0 c.index_mut-handle.ensures.value refl (c.append.ensures.same shown) (c.opened.ensures.sound shown sound))

pub returns-clause-changes : goal.returns-clause-changes
returns-clause-changes g c = λ shown.
    let made = ap changes_of (c.append.ensures.calls shown) in
    let call : Event = Wrote (g.S.System.id c.index_mut-handle.result.now.file) c.args.bytes.now (is_ok c.append.result) in
    one_at (IsWriting c.args.bytes.now) c.changed.result (g.S.System.calls c.args.self.now.system) (g.S.System.calls c.append.new.self) c.changed.ensures.disk
    (call, refl, made ∙ ap (λ (calls : List Event). call ∷ calls) (c.opened.ensures.changes shown))
