use Rattle.std.proofs.Common.{refl}
use Rattle.std.proofs.lemmas.Result.{err_from_is_err_and}
use Rattle.bl_out.specs.contracts.writer.Output.{the_view}
use Rattle.bl_out.proofs.BecomeLemmas.{acts_once}
use Rattle.bl_out.proofs.SealLemmas.{one_seals}
use Rattle.bl_out.proofs.writer.Output.sync_next.Goals as goal

pub returns-in_err-sync-clause-acts : goal.returns-in_err-sync-clause-acts
returns-in_err-sync-clause-acts g c =
    let p = err_from_is_err_and c.from_residual.result c.from_residual.ensures.1 in
    let a = c.in_err-sync.ensures in
    rw (← c.self.view_is, p.1, p.2) (acts_once g.S.Site _ (the_view c.self.inside) _ c.args.site.now c.sync.new.site c.args.name.now refl (rw (← c.self.view_is) at c.requires.drawn) a.touches a.tells_nothing a.asked a.causes a.disk)

pub returns-clause-becomes : goal.returns-clause-becomes
returns-clause-becomes g c = λ next.
    rw (← c.self.view_is) (one_seals g.S.Site (the_view c.self.inside) next c.args.site.now c.sync.new.site c.args.name.now (rw (← c.self.view_is) at c.requires.next)
    c.in_ok-sync.ensures.synced c.sync.ensures.certain)

pub returns-clause-acts : goal.returns-clause-acts
returns-clause-acts g c =
    let a = c.in_ok-sync.ensures in
    rw (← c.self.view_is) (acts_once g.S.Site _ (the_view c.self.inside) _ c.args.site.now c.sync.new.site c.args.name.now refl (rw (← c.self.view_is) at c.requires.drawn) a.touches a.tells_nothing a.asked a.causes a.disk)
