use Rattle.std.proofs.Common.{sym, subst, true, Err}
use Rattle.bl_store.specs.Calls.{LeavesStore}
use Rattle.bl_store.specs.Held.{with_write}
use Rattle.bl_store.specs.Stored.{Stored}
use Rattle.bl_store.proofs.ComposeLemmas.{leaves_marked}
use Rattle.bl_store.specs.Reading.{GivesMap}
use Rattle.bl_store.specs.Held.{now_of}
use Rattle.bl_store.proofs.store.Store.append_asked.Goals as goal

pub returns-in-Err-clause-stands : goal.returns-in-Err-clause-stands
returns-in-Err-clause-stands g c = λ shown names held t.
    let left = g.S.Site.disk c.append.new.site in
    subst (λ (s : Stored). LeavesStore {T = Unit {0}} names held (with_write c.args.batch.now held) (Err c.in-Err.error) (record s { broken = true }) left) (sym c.self.view_is)
    (leaves_marked names held (with_write c.args.batch.now held) c.in-Err.error c.append.new.self true left (λ no_. cc no_) (c.in-Err.ensures.stands shown names held t))

pub returns-in-Err-clause-gives : goal.returns-in-Err-clause-gives
returns-in-Err-clause-gives g c = λ shown names held t.
    let left = g.S.Site.disk c.append.new.site in
    subst (λ (s : Stored). GivesMap (now_of held) (record s { broken = true }) left) (sym c.self.view_is) (c.in-Err.ensures.gives shown names held t)
