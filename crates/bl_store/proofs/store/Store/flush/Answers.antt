use Rattle.std.proofs.Common.{◌≡◌, ◌≤◌, refl, ap, arith, inl, [], Result, Ok, Err, OnOk, OnErr, true}
use Rattle.bl_wal.specs.LogFile.{LogFile}
use Rattle.bl_store.specs.Held.{all_durable}
use Rattle.bl_store.specs.Stored.{Stored}
use Rattle.bl_store.specs.declared.error.StoreErr.{StoreErr}
use Rattle.bl_store.proofs.ComposeLemmas.{cuts_second, leaves_result}
use Rattle.bl_store.proofs.OwnLemmas.{own_join}
use Rattle.bl_code.proofs.Basics.{on_any_err}
use Rattle.bl_store.specs.Reading.{GivesMap}
use Rattle.bl_store.specs.Held.{now_of}
use Rattle.bl_store.proofs.store.Store.flush.Goals as goal

pub returns-in_err-flush_waiting-clause-stands : goal.returns-in_err-flush_waiting-clause-stands
returns-in_err-flush_waiting-clause-stands g c = λ shown usable names held t.
    leaves_result names held held (all_durable held) c.in_err-flush_waiting.field-0.0 c.from_residual.result c.flush_waiting.new.self (g.S.Site.disk c.flush_waiting.new.site) c.from_residual.ensures.0
    (c.in_err-flush_waiting.ensures.stands shown names held t)

pub returns-in_err-flush_waiting-clause-cuts : goal.returns-in_err-flush_waiting-clause-cuts
returns-in_err-flush_waiting-clause-cuts g c = λ shown sure usable held t. c.in_err-flush_waiting.ensures.cuts shown sure held t

pub returns-then-count-eq0-clause-stands : goal.returns-then-count-eq0-clause-stands
returns-then-count-eq0-clause-stands g c = λ shown usable names held t.
    c.sync_log.ensures.stands shown names held (c.in_ok-flush_waiting.ensures.stands shown names held t).ok

pub returns-then-count-eq0-clause-cuts : goal.returns-then-count-eq0-clause-cuts
returns-then-count-eq0-clause-cuts g c = λ shown sure usable held t.
    cuts_second g.S.Site held held (all_durable held) c.args.site.now c.flush_waiting.new.site c.sync_log.new.site (c.in_ok-flush_waiting.ensures.own.tells_nothing.told shown) (omega arith) (omega arith) (λ n le. refl)
    (c.in_ok-flush_waiting.ensures.cuts shown sure held t)
    (c.sync_log.ensures.cuts shown (c.in_ok-flush_waiting.ensures.own.certain shown sure) held (c.in_ok-flush_waiting.ensures.stands shown [] held t).ok)

-- a sync draws no number
no_number : {T : Type 0} (result : Result T StoreErr) (old new : Stored) → OnOk result (new ≡ old) → OnErr result (new ≡ record old { log = new.log; broken = true }) → old.next ≤ new.next
no_number (Ok x) old new same failed = let next = ap (λ (x : Stored). x.next) same in omega (arith, next)
no_number (Err e) old new same failed = let next = ap (λ (x : Stored). x.next) failed in omega (arith, next)

pub returns-then-count-eq0-clause-own : goal.returns-then-count-eq0-clause-own
returns-then-count-eq0-clause-own g c =
    let f = c.in_ok-flush_waiting.ensures.flushed in
    own_join c.args.self.now c.flush_waiting.new.self c.sync_log.new.self c.in_ok-flush_waiting.ensures.upwards (no_number c.sync_log.result c.flush_waiting.new.self c.sync_log.new.self c.sync_log.ensures.same c.sync_log.ensures.always)
    (inl (ap (λ (l : LogFile). l.number) f.log)) f.manifest
    g.S.Site c.sync_log.result c.in_ok-flush_waiting.field-0 c.args.site.now c.flush_waiting.new.site c.sync_log.new.site c.in_ok-flush_waiting.ensures.own c.sync_log.ensures.own

pub returns-clause-stands : goal.returns-clause-stands
returns-clause-stands g c = λ shown usable names held t.
    c.flush_in_use-flushed.ensures.stands shown names held (c.in_ok-flush_waiting.ensures.stands shown names held t).ok

pub returns-clause-cuts : goal.returns-clause-cuts
returns-clause-cuts g c = λ shown sure usable held t.
    cuts_second g.S.Site held held (all_durable held) c.args.site.now c.flush_waiting.new.site c.flush_in_use-flushed.new.site (c.in_ok-flush_waiting.ensures.own.tells_nothing.told shown) (omega arith) (omega arith) (λ n le. refl)
    (c.in_ok-flush_waiting.ensures.cuts shown sure held t)
    (c.flush_in_use-flushed.ensures.cuts shown (c.in_ok-flush_waiting.ensures.own.certain shown sure) held (c.in_ok-flush_waiting.ensures.stands shown [] held t).ok)

pub returns-clause-own : goal.returns-clause-own
returns-clause-own g c =
    let f = c.in_ok-flush_waiting.ensures.flushed in
    own_join c.args.self.now c.flush_waiting.new.self c.flush_in_use-flushed.new.self c.in_ok-flush_waiting.ensures.upwards c.flush_in_use-flushed.ensures.upwards (inl (ap (λ (l : LogFile). l.number) f.log)) f.manifest
    g.S.Site c.flush_in_use-flushed.result c.in_ok-flush_waiting.field-0 c.args.site.now c.flush_waiting.new.site c.flush_in_use-flushed.new.site c.in_ok-flush_waiting.ensures.own c.flush_in_use-flushed.ensures.own

pub returns-in_err-flush_waiting-clause-gives : goal.returns-in_err-flush_waiting-clause-gives
returns-in_err-flush_waiting-clause-gives g c = λ shown usable names held t.
    on_any_err c.from_residual.result (GivesMap (now_of held) c.flush_waiting.new.self (g.S.Site.disk c.flush_waiting.new.site)) (c.in_err-flush_waiting.ensures.gives shown names held t)

pub returns-then-count-eq0-clause-gives : goal.returns-then-count-eq0-clause-gives
returns-then-count-eq0-clause-gives g c = λ shown usable names held t. c.sync_log.ensures.gives shown names held (c.in_ok-flush_waiting.ensures.stands shown names held t).ok

pub returns-clause-gives : goal.returns-clause-gives
returns-clause-gives g c = λ shown usable names held t. c.flush_in_use-flushed.ensures.gives shown names held (c.in_ok-flush_waiting.ensures.stands shown names held t).ok
