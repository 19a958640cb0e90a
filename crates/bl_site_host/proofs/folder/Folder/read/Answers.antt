use Rattle.std.proofs.Common.{refl}
use Rattle.bl_site_host.specs.Handles.{IsPlaceOf}
use Rattle.bl_site_host.proofs.Sound.{at_some, more, sound_plain, sound_used, stands_at}
use Rattle.bl_site_host.proofs.folder.Folder.read.Goals as goal

pub returns-in_err-read-clause-sound : goal.returns-in_err-read-clause-sound
returns-in_err-read-clause-sound g c = λ shown sound.
    let place = at_some (IsPlaceOf c.args.name.now c.opened.new.self.handles.open.items) _ _ c.in-Some.is c.in_ok-at.ensures.place in
    sound_plain _ _ _ _ _ tt (c.read.ensures.calls shown) (sound_used g.S.System.id _ _ _ _ _ place.0 c.index_mut.ensures.value refl (c.read.ensures.same shown) (c.opened.ensures.sound shown sound))

pub returns-clause-bytes : goal.returns-clause-bytes
returns-clause-bytes g c = λ shown sound.
    let place = at_some (IsPlaceOf c.args.name.now c.opened.new.self.handles.open.items) _ _ c.in-Some.is c.in_ok-at.ensures.place in
    record {
      file = _;
      older = _;
      newest = c.in_ok-read.ensures.calls shown;
      since = more _ _ _ _ (c.in_ok-read.ensures.calls shown) (c.opened.ensures.grows shown);
      stands = stands_at g.S.System.id _ _ _ _ _ place c.index_mut.ensures.value (c.opened.ensures.sound shown sound);
    }

pub returns-clause-sound : goal.returns-clause-sound
returns-clause-sound g c = λ shown sound.
    let place = at_some (IsPlaceOf c.args.name.now c.opened.new.self.handles.open.items) _ _ c.in-Some.is c.in_ok-at.ensures.place in
    sound_plain _ _ _ _ _ tt (c.read.ensures.calls shown) (sound_used g.S.System.id _ _ _ _ _ place.0 c.index_mut.ensures.value refl (c.read.ensures.same shown) (c.opened.ensures.sound shown sound))
