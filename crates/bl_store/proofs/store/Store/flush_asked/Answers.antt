use Rattle.std.proofs.Common.{◌^◌, sym, ap, subst, Err}
use Rattle.bl_store.specs.Calls.{LeavesStore, WritesOwn}
use Rattle.bl_store.specs.Stored.{Stored}
use Rattle.bl_store.proofs.BreakLemmas.{unbroken_is_full}
use Rattle.bl_store.proofs.ComposeLemmas.{leaves_marked, own_marked}
use Rattle.bl_store.specs.Reading.{GivesMap}
use Rattle.bl_store.specs.Held.{now_of}
use Rattle.bl_store.proofs.store.Store.flush_asked.Goals as goal

pub returns-in-Err-clause-stands : goal.returns-in-Err-clause-stands
returns-in-Err-clause-stands g c = λ shown names held t.
    let b = c.breaks-self-inside.ensures in
    let left = g.S.Site.disk c.flush_waiting.new.site in
    subst (λ (s : Stored). LeavesStore {T = Unit {0}} names held held (Err c.in-Err.error) (record s { broken = c.breaks-self-inside.result }) left) (sym c.self.view_is)
    (leaves_marked names held held c.in-Err.error c.flush_waiting.new.self c.breaks-self-inside.result left
    (unbroken_is_full c.in-Err.error c.breaks-self-inside.result c.flush_waiting.new.self.broken c.in-Err.ensures.causes b.disk b.memory
    (λ is. c.in-Err.ensures.breaks.full (10 ^ 15) (ap Err is)))
    (c.in-Err.ensures.stands shown names held t))

pub returns-in-Err-clause-own : goal.returns-in-Err-clause-own
returns-in-Err-clause-own g c =
    subst (λ (s : Stored). WritesOwn {T = Unit {0}} g.S.Site (Err c.in-Err.error) c.args.self.now (record s { broken = c.breaks-self-inside.result }) c.args.site.now c.flush_waiting.new.site) (sym c.self.view_is)
    (own_marked g.S.Site (Err c.in-Err.error) c.args.self.now c.flush_waiting.new.self c.breaks-self-inside.result c.args.site.now c.flush_waiting.new.site c.in-Err.ensures.own)

pub returns-in-Err-clause-gives : goal.returns-in-Err-clause-gives
returns-in-Err-clause-gives g c = λ shown names held t.
    let left = g.S.Site.disk c.flush_waiting.new.site in
    subst (λ (s : Stored). GivesMap (now_of held) (record s { broken = c.breaks-self-inside.result }) left) (sym c.self.view_is) (c.in-Err.ensures.gives shown names held t)
