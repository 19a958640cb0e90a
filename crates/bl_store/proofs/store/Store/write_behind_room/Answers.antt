use Rattle.std.proofs.Common.{◌∷◌, ◌++◌, length, arith, inr, []}
use Rattle.bl_store.specs.Held.{all_durable, maps_of, with_write}
use Rattle.bl_store.proofs.ComposeLemmas.{cuts_second, leaves_result, leaves_second, less_durable_write}
use Rattle.bl_site.proofs.Moments.{widened}
use Rattle.bl_open.specs.SteadyCuts.{LeavesMap}
use Rattle.bl_store.proofs.OwnLemmas.{own_join}
use Rattle.bl_store.proofs.HeldLemmas.{leaves_agree, leaves_within, maps_more, one_longer}
use Rattle.bl_store.proofs.LogLemmas.{less_durable, within_durable}
use Rattle.bl_code.proofs.Basics.{on_any_err}
use Rattle.bl_store.specs.Reading.{GivesMap}
use Rattle.bl_store.specs.Held.{now_of}
use Rattle.bl_store.proofs.store.Store.write_behind_room.Goals as goal

pub returns-in_err-make_room-clause-stands : goal.returns-in_err-make_room-clause-stands
returns-in_err-make_room-clause-stands g c = λ shown names held t.
    leaves_result names held (all_durable held) (with_write c.args.batch.now held) c.in_err-make_room.field-0.0 c.from_residual.result c.make_room.new.self (g.S.Site.disk c.make_room.new.site) c.from_residual.ensures.0
    (c.in_err-make_room.ensures.stands shown names held t)

pub returns-clause-stands : goal.returns-clause-stands
returns-clause-stands g c = λ shown names held t.
    let w = c.args.batch.now in
    let within = within_durable names held c.args.self.now (g.S.Site.disk c.args.site.now) t in
    let new = g.S.Site.disk c.append_asked.new.site in
    leaves_second names held (all_durable held) (with_write w held) (with_write w (all_durable held)) c.append_asked.result c.append_asked.new.self new
    (λ x. less_durable names held c.append_asked.new.self new within x) (λ x. less_durable_write names held w c.append_asked.new.self new within x)
    (c.append_asked.ensures.stands shown names (all_durable held) (c.in_ok-make_room.ensures.stands shown names held t).ok)

pub returns-clause-cuts : goal.returns-clause-cuts
returns-clause-cuts g c = λ shown sure held t.
    let w = c.args.batch.now in
    let within = within_durable [] held c.args.self.now (g.S.Site.disk c.args.site.now) t in
    let longer = one_longer held w in
    cuts_second g.S.Site held (all_durable held) (with_write w held) c.args.site.now c.make_room.new.site c.append_asked.new.site (c.in_ok-make_room.ensures.own.tells_nothing.told shown) within (omega (arith, longer)) (λ n le. maps_more held w n le)
    (c.in_ok-make_room.ensures.cuts shown sure held t)
    (c.append_asked.ensures.cuts shown (c.in_ok-make_room.ensures.own.certain shown sure) (all_durable held) (c.in_ok-make_room.ensures.stands shown [] held t).ok)

pub returns-in_err-make_room-clause-cuts : goal.returns-in_err-make_room-clause-cuts
returns-in_err-make_room-clause-cuts g c = λ shown sure held t.
    let s = g.S.Site in
    let w = c.args.batch.now in
    let longer = one_longer held w in
    widened s.clock s.left_since c.args.site.now c.make_room.new.site (LeavesMap (maps_of held) held.durable (length held.writes) (s.told c.args.site.now))
    (LeavesMap (maps_of (with_write w held)) held.durable (length (held.writes ++ w ∷ [])) (s.told c.args.site.now))
    (λ k l. leaves_within (maps_of (with_write w held)) held.durable held.durable (length held.writes) (length (held.writes ++ w ∷ [])) (s.told c.args.site.now) k (omega arith) (omega (arith, longer))
    (leaves_agree (maps_of held) (maps_of (with_write w held)) held.durable (length held.writes) (s.told c.args.site.now) k (λ n le. maps_more held w n le) l))
    (c.in_err-make_room.ensures.cuts shown sure held t)

pub returns-clause-own : goal.returns-clause-own
returns-clause-own g c =
    let room = c.in_ok-make_room.ensures.room in
    let next = c.append_asked.ensures.next in
    let log = room.log in
    own_join c.args.self.now c.make_room.new.self c.append_asked.new.self c.make_room.ensures.upwards (omega (arith, next)) (inr (room.number, room.above, omega (arith, log))) room.manifest
    g.S.Site c.append_asked.result c.in_ok-make_room.field-0 c.args.site.now c.make_room.new.site c.append_asked.new.site c.in_ok-make_room.ensures.own c.append_asked.ensures.own

pub returns-in_err-make_room-clause-gives : goal.returns-in_err-make_room-clause-gives
returns-in_err-make_room-clause-gives g c = λ shown names held t.
    on_any_err c.from_residual.result (GivesMap (now_of held) c.make_room.new.self (g.S.Site.disk c.make_room.new.site)) (c.in_err-make_room.ensures.gives shown names held t)

pub returns-clause-gives : goal.returns-clause-gives
returns-clause-gives g c = λ shown names held t. c.append_asked.ensures.gives shown names (all_durable held) (c.in_ok-make_room.ensures.stands shown names held t).ok
