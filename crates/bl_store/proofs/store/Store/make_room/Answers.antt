use Rattle.std.proofs.Common.{refl, ap, arith, inl, []}
use Rattle.bl_wal.specs.LogFile.{LogFile}
use Rattle.bl_store.specs.Held.{all_durable}
use Rattle.bl_store.proofs.ComposeLemmas.{cuts_second, leaves_result, leaves_second}
use Rattle.bl_store.proofs.OwnLemmas.{own_join}
use Rattle.bl_code.proofs.Basics.{on_any_err}
use Rattle.bl_store.specs.Reading.{GivesMap}
use Rattle.bl_store.specs.Held.{now_of}
use Rattle.bl_store.proofs.store.Store.make_room.Goals as goal

pub returns-in_err-flush_waiting-clause-stands : goal.returns-in_err-flush_waiting-clause-stands
returns-in_err-flush_waiting-clause-stands g c = λ shown names held t.
    leaves_result names held held (all_durable held) c.in_err-flush_waiting.field-0.0 c.from_residual.result c.flush_waiting.new.self (g.S.Site.disk c.flush_waiting.new.site) c.from_residual.ensures.0
    (c.in_err-flush_waiting.ensures.stands shown names held t)

pub returns-clause-stands : goal.returns-clause-stands
returns-clause-stands g c = λ shown names held t.
    leaves_second names held held (all_durable held) (all_durable held) c.switch.result c.switch.new.self (g.S.Site.disk c.switch.new.site) (λ x. x) (λ x. x)
    (c.switch.ensures.stands shown names held (c.in_ok-flush_waiting.ensures.stands shown names held t).ok)

pub returns-clause-cuts : goal.returns-clause-cuts
returns-clause-cuts g c = λ shown sure held t.
    cuts_second g.S.Site held held (all_durable held) c.args.site.now c.flush_waiting.new.site c.switch.new.site (c.in_ok-flush_waiting.ensures.own.tells_nothing.told shown) (omega arith) (omega arith) (λ n le. refl)
    (c.in_ok-flush_waiting.ensures.cuts shown sure held t)
    (c.switch.ensures.cuts shown (c.in_ok-flush_waiting.ensures.own.certain shown sure) held (c.in_ok-flush_waiting.ensures.stands shown [] held t).ok)

pub returns-clause-own : goal.returns-clause-own
returns-clause-own g c =
    let f = c.in_ok-flush_waiting.ensures in
    own_join c.args.self.now c.flush_waiting.new.self c.switch.new.self f.upwards c.switch.ensures.upwards (inl (ap (λ (l : LogFile). l.number) f.flushed.log)) f.flushed.manifest
    g.S.Site c.switch.result c.in_ok-flush_waiting.field-0 c.args.site.now c.flush_waiting.new.site c.switch.new.site f.own c.switch.ensures.own

pub returns-in_err-flush_waiting-clause-gives : goal.returns-in_err-flush_waiting-clause-gives
returns-in_err-flush_waiting-clause-gives g c = λ shown names held t.
    on_any_err c.from_residual.result (GivesMap (now_of held) c.flush_waiting.new.self (g.S.Site.disk c.flush_waiting.new.site)) (c.in_err-flush_waiting.ensures.gives shown names held t)

pub returns-clause-gives : goal.returns-clause-gives
returns-clause-gives g c = λ shown names held t. c.switch.ensures.gives shown names held (c.in_ok-flush_waiting.ensures.stands shown names held t).ok
