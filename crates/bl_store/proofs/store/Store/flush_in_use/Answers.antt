use Rattle.std.proofs.Common.{◌≡◌, ◌+◌, refl, sym, ap, subst, arith, inr, []}
use Rattle.bl_store.specs.Held.{all_durable}
use Rattle.bl_store.specs.Stored.{Stored}
use Rattle.bl_store.proofs.ComposeLemmas.{cuts_second, leaves_result, leaves_second}
use Rattle.bl_store.proofs.LogLemmas.{less_durable, within_durable}
use Rattle.bl_store.proofs.OwnLemmas.{own_join}
use Rattle.bl_code.proofs.Basics.{on_any_err}
use Rattle.bl_store.specs.Reading.{GivesMap}
use Rattle.bl_store.specs.Held.{now_of}
use Rattle.bl_store.proofs.store.Store.flush_in_use.Goals as goal

pub returns-in_err-switch-clause-stands : goal.returns-in_err-switch-clause-stands
returns-in_err-switch-clause-stands g c = λ shown names held t.
    leaves_result names held (all_durable held) (all_durable held) c.in_err-switch.field-0.0 c.from_residual.result c.switch.new.self (g.S.Site.disk c.switch.new.site) c.from_residual.ensures.0
    (c.in_err-switch.ensures.stands shown names held t)

pub returns-clause-stands : goal.returns-clause-stands
returns-clause-stands g c = λ shown names held t.
    let within = within_durable names held c.args.self.now (g.S.Site.disk c.args.site.now) t in
    let new = g.S.Site.disk c.flush_asked.new.site in
    leaves_second names held (all_durable held) (all_durable held) (all_durable held) c.flush_asked.result c.flush_asked.new.self new
    (λ x. less_durable names held c.flush_asked.new.self new within x) (λ x. x)
    (c.flush_asked.ensures.stands shown names (all_durable held) (c.in_ok-switch.ensures.stands shown names held t).ok)

pub returns-clause-cuts : goal.returns-clause-cuts
returns-clause-cuts g c = λ shown sure held t.
    let within = within_durable [] held c.args.self.now (g.S.Site.disk c.args.site.now) t in
    cuts_second g.S.Site held (all_durable held) (all_durable held) c.args.site.now c.switch.new.site c.flush_asked.new.site (c.in_ok-switch.ensures.own.tells_nothing.told shown) within (omega arith) (λ n le. refl)
    (c.in_ok-switch.ensures.cuts shown sure held t)
    (c.flush_asked.ensures.cuts shown (c.in_ok-switch.ensures.own.certain shown sure) (all_durable held) (c.in_ok-switch.ensures.stands shown [] held t).ok)

pub returns-clause-own : goal.returns-clause-own
returns-clause-own g c =
    let w = c.in_ok-switch.ensures in
    let number : c.switch.new.self.log.number ≡ c.args.self.now.next = ap (λ (x : Stored). x.log.number) w.switched in
    let next : c.switch.new.self.next ≡ c.args.self.now.next + 1 = ap (λ (x : Stored). x.next) w.switched in
    own_join c.args.self.now c.switch.new.self c.flush_asked.new.self w.upwards c.flush_asked.ensures.upwards (inr (subst Rattle.bl_names.specs.Names.IsNumber (sym number) w.number, omega (arith, number), omega (arith, number, next)))
    (ap (λ (x : Stored). x.manifest.number) w.switched)
    g.S.Site c.flush_asked.result c.in_ok-switch.field-0 c.args.site.now c.switch.new.site c.flush_asked.new.site w.own c.flush_asked.ensures.own

pub returns-in_err-switch-clause-gives : goal.returns-in_err-switch-clause-gives
returns-in_err-switch-clause-gives g c = λ shown names held t.
    on_any_err c.from_residual.result (GivesMap (now_of held) c.switch.new.self (g.S.Site.disk c.switch.new.site)) (c.in_err-switch.ensures.gives shown names held t)

pub returns-clause-gives : goal.returns-clause-gives
returns-clause-gives g c = λ shown names held t. c.flush_asked.ensures.gives shown names (all_durable held) (c.in_ok-switch.ensures.stands shown names held t).ok
