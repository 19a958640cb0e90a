use Rattle.std.proofs.Common.{ap, sym, subst, Ok, Option, Some, None}
use Rattle.bl_edit.specs.Bounds.{FitsWords}
use Rattle.bl_edit.specs.declared.edit.Edit.{Edit}
use Rattle.bl_out.specs.Held.{HoldsOut}
use Rattle.bl_out.specs.Outputs.{IsSealedAs, Out, finished, next_file}
use Rattle.bl_out.specs.States.{AreFilled, IsOut}
use Rattle.bl_out.specs.declared.sealed.Sealed.{Sealed}
use Rattle.bl_flush.proofs.SealedLemmas.{IsSealing, edit_done, fewer_left, held_done, sealing_goes_on, sealing_starts, touches_so}
use Rattle.bl_flush.proofs.flush.seal_all.Goals as goal

pub files-init : goal.files-init
files-init g c =
    let start = sealing_starts g.S.Site c.args.output c.args.site.now (λ shown. g.met.S.Site.only shown c.args.site.now) (λ shown. g.met.S.Site.only_now shown c.args.site.now) c.requires.usable c.requires.there
    (record { log_number = tt; next_file = tt; sizes = tt; totals = tt; garbage = tt }) in
    subst (λ (e : Edit). IsSealing g.S.Site c.args.output c.args.output e c.args.site.now c.args.site.now) (sym c.new-edit.ensures) start

pub files-smaller : goal.files-smaller
files-smaller g c =
    let named : (o : Out) → IsOut o c.files.output → AreFilled o → IsSealedAs (next_file o) (Some c.in-Some.sealed) = λ o out filled. subst (λ (x : Option Sealed). IsSealedAs (next_file o) x) c.in-Some.is (c.in_ok-sealed.ensures.named o out filled) in
    let m = c.requires.made in
    fewer_left g.S.Site c.args.output c.args.site.now c.files.output c.seal.new.self c.files.edit c.files.site c.seal.new.site c.files.invariant c.seal.ensures.drawn c.seal.ensures.touches c.seal.ensures.tells_nothing c.seal.ensures.asked
    c.outputs_are_sealed_file_by_file.ensures.next c.in_ok-sealed.ensures.sealed c.in_ok-sealed.ensures.usable c.in-Some.sealed named m.0 m.1.0 m.1.1.0 m.1.1.1 m.1.1.2

pub files-preserved : goal.files-preserved
files-preserved g c =
    let named : (o : Out) → IsOut o c.files.output → AreFilled o → IsSealedAs (next_file o) (Some c.in-Some.sealed) = λ o out filled. subst (λ (x : Option Sealed). IsSealedAs (next_file o) x) c.in-Some.is (c.in_ok-sealed.ensures.named o out filled) in
    subst (λ (e : Edit). IsSealing g.S.Site c.args.output c.seal.new.self e c.args.site.now c.seal.new.site) (sym c.in_ok-push.ensures.pushed)
    (sealing_goes_on g.S.Site c.args.output c.args.site.now c.files.output c.seal.new.self c.files.edit c.files.site c.seal.new.site c.files.invariant c.seal.ensures.drawn c.seal.ensures.touches c.seal.ensures.tells_nothing c.seal.ensures.asked
    c.outputs_are_sealed_file_by_file.ensures.next c.in_ok-sealed.ensures.sealed c.in_ok-sealed.ensures.usable c.in-Some.sealed named
    (subst FitsWords c.in_ok-push.ensures.pushed (c.in_ok-push.ensures.fits c.files.invariant.fits)))

pub returns-in_err-push-clause-touches : goal.returns-in_err-push-clause-touches
returns-in_err-push-clause-touches g c =
    touches_so g.S.Site c.args.output c.args.site.now c.files.output c.seal.new.self c.files.edit c.files.site c.seal.new.site c.files.invariant c.seal.ensures.drawn c.seal.ensures.touches c.seal.ensures.tells_nothing c.seal.ensures.asked

pub returns-clause-edit : goal.returns-clause-edit
returns-clause-edit g c = λ o from next out made.
    let named : (p : Out) → IsOut p c.files.output → AreFilled p → IsSealedAs (next_file p) None = λ p is filled. subst (λ (x : Option Sealed). IsSealedAs (next_file p) x) c.in_default.is (c.in_ok-sealed.ensures.named p is filled) in
    edit_done g.S.Site c.args.output c.args.site.now c.files.output c.files.edit c.files.site c.files.invariant c.outputs_are_sealed_file_by_file.ensures.end named o from next out made

pub returns-clause-holds : goal.returns-clause-holds
returns-clause-holds g c = λ shown o from next out made held.
    let named : (p : Out) → IsOut p c.files.output → AreFilled p → IsSealedAs (next_file p) None = λ p is filled. subst (λ (x : Option Sealed). IsSealedAs (next_file p) x) c.in_default.is (c.in_ok-sealed.ensures.named p is filled) in
    subst (λ site. HoldsOut (g.S.Site.disk site) (finished o)) (sym (c.in_ok-sealed.ensures.none (ap Ok c.in_default.is)).1)
    (held_done g.S.Site c.args.output c.args.site.now c.files.output c.files.edit c.files.site c.files.invariant c.outputs_are_sealed_file_by_file.ensures.end named o from next out made shown held)
