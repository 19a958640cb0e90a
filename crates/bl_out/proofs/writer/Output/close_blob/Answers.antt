use Rattle.std.proofs.Common.{◌≡◌, ◌≤◌, ◌+◌, length, refl, sym, ◌∙◌, ap, subst, Some, arith}
use Rattle.bl_site.specs.Calls.{Appends}
use Rattle.bl_site.specs.Disk.{Name}
use Rattle.std.proofs.lemmas.Result.{err_from_is_err_and}
use Rattle.bl_blob.specs.declared.blob.Totals.{Totals}
use Rattle.bl_out.specs.States.{BlobHand, State}
use Rattle.bl_out.specs.contracts.writer.Output.{the_view}
use Rattle.bl_out.proofs.BecomeLemmas.{acts_once}
use Rattle.bl_out.proofs.PartLemmas.{blob_among, blob_closes}
use Rattle.bl_out.proofs.StepLemmas.{some_of}
use Rattle.bl_out.proofs.writer.Output.close_blob.Goals as goal

pub returns-in_err-append-clause-acts : goal.returns-in_err-append-clause-acts
returns-in_err-append-clause-acts g c =
    let p = err_from_is_err_and c.from_residual-in_err-append.result c.from_residual-in_err-append.ensures.1 in
    let a = c.in_err-append.ensures in
    rw (p.1, p.2) (acts_once g.S.Site _ _ _ c.args.site.now c.append.new.site c.name.result.now refl (blob_among (the_view c.self.inside) c.in-Some.hand c.in-Some.is c.self.invariant.0 c.name.result.now c.name.ensures) a.touches a.tells_nothing a.asked a.causes a.disk)

pub returns-clause-becomes : goal.returns-clause-becomes
returns-clause-becomes g c = λ next there_is.
    let s = the_view c.self.inside in
    let h = c.in-Some.hand in
    let old = g.S.Site.disk c.args.site.now in
    let new = g.S.Site.disk c.append.new.site in
    let sealed : s.sealed ≤ length s.tables + length s.blobs = rw (← c.self.view_is) at c.requires.sealed in
    let hand : c.args.self.now.blob ≡ Some h = ap (λ (t : State). t.blob) (sym c.self.view_is) ∙ c.in-Some.is in
    let filled : 1 ≤ h.totals.count = some_of c.args.self.now.blob h (λ (b : BlobHand). 1 ≤ b.totals.count) hand c.requires.filled in
    rw (← c.self.view_is, c.in_ok-push.ensures.items)
    (blob_closes g.S.Site c.names_one.ensures s c.self.invariant.0 next c.args.site.now c.append.new.site h c.in-Some.is sealed c.finish.result.0 c.finish.ensures.number c.finish.ensures.named c.finish.result.1
    (λ rs are. let count : h.totals.count ≡ length rs = ap (λ (t : Totals). t.count) are in c.finish.ensures.rest rs are (omega (arith, count, filled)))
    (λ shown. subst (λ (n : Name). Appends n c.finish.result.1 c.finish.result.1 old new) c.name.ensures (c.in_ok-append.ensures.appended shown))
    c.append.ensures.certain)

pub returns-clause-acts : goal.returns-clause-acts
returns-clause-acts g c =
    let a = c.in_ok-append.ensures in
    acts_once g.S.Site _ _ _ c.args.site.now c.append.new.site c.name.result.now refl (blob_among (the_view c.self.inside) c.in-Some.hand c.in-Some.is c.self.invariant.0 c.name.result.now c.name.ensures) a.touches a.tells_nothing a.asked a.causes a.disk
