use Rattle.std.proofs.Common.{◌≡◌, ◌+◌, length, false, sym, ◌∙◌, ap, subst, arith, inl, inr, []}
use Rattle.bl_site.specs.Causes.{Rose}
use Rattle.bl_site.proofs.Moments.{widened}
use Rattle.bl_open.specs.SteadyCuts.{LeavesMap}
use Rattle.bl_store.specs.Calls.{WritesOwn}
use Rattle.bl_store.specs.Held.{all_durable, maps_of}
use Rattle.bl_store.specs.Standing.{StandsFor}
use Rattle.bl_store.specs.Stored.{Stored}
use Rattle.bl_store.specs.Switching.{undrawn}
use Rattle.bl_store.proofs.BreakLemmas.{always_breaks, on_err, on_ok, rose_then}
use Rattle.bl_store.proofs.HeldLemmas.{leaves_within}
use Rattle.bl_store.proofs.LogLemmas.{leaves_failed, leaves_then, within_durable}
use Rattle.bl_store.proofs.MomentLemmas.{both_parts, cut_of, no_call, settled_of}
use Rattle.bl_store.proofs.OwnLemmas.{own_join}
use Rattle.bl_store.specs.Stored.{IsInOrder}
use Rattle.bl_code.proofs.Basics.{on_any_err}
use Rattle.bl_store.specs.Reading.{GivesMap}
use Rattle.bl_store.specs.Held.{now_of}
use Rattle.bl_store.proofs.store.Store.switch.Goals as goal

pub returns-then-next-eq-FILE_LIMIT-clause-stands : goal.returns-then-next-eq-FILE_LIMIT-clause-stands
returns-then-next-eq-FILE_LIMIT-clause-stands g c = λ shown names held t.
    let usable : c.self.inside.broken ≡ false = ap (λ (x : Stored). x.broken) c.self.view_is ∙ c.requires.usable in
    let works : c.args.self.now.manifest.failed ≡ false = ap (λ (x : Stored). x.manifest.failed) (sym c.self.view_is) ∙ c.self.invariant.manifest usable in
    record {
      ok = tt;
      err = λ no_. t;
      settled = λ none chance. settled_of c.steady_disks_stand.ensures.settled held c.args.self.now (g.S.Site.disk c.args.site.now) (subst (λ ns. StandsFor ns held c.args.self.now (g.S.Site.disk c.args.site.now)) none t) works;
    }

pub returns-then-next-eq-FILE_LIMIT-clause-cuts : goal.returns-then-next-eq-FILE_LIMIT-clause-cuts
returns-then-next-eq-FILE_LIMIT-clause-cuts g c = λ shown sure held t.
    let s = g.S.Site in
    let old = c.args.site.now in
    no_call s old (LeavesMap (maps_of held) held.durable (length held.writes)) (λ other. g.met.S.Site.only shown old other sure) (g.met.S.Site.only_now shown old)
    (λ k cut. cut_of c.steady_disks_are_left.ensures.cuts held c.args.self.now (s.disk old) (s.told old) k t cut)

pub returns-in_err-sync_log-clause-stands : goal.returns-in_err-sync_log-clause-stands
returns-in_err-sync_log-clause-stands g c = λ shown names held t.
    let new = g.S.Site.disk c.sync_log.new.site in
    leaves_failed names held (all_durable held) c.in_err-sync_log.field-0.0 c.from_residual.result c.sync_log.new.self new c.from_residual.ensures.0 (c.in_err-sync_log.ensures.stands shown names held t)

-- behind the sync the store is as it was
pub returns-clause-breaks : goal.returns-clause-breaks
returns-clause-breaks g c =
    let s = g.S.Site in
    let rose : Rose (s.changes c.args.site.now) (s.changes c.make_log.new.site) = elim c.make_log.ensures.asked [
      | inl more ↦ rose_then (s.changes c.args.site.now) (s.changes c.sync_log.new.site) (s.changes c.make_log.new.site) c.sync_log.ensures.asked more
      | inr same ↦ subst (Rose (s.changes c.args.site.now)) (sym same) c.sync_log.ensures.asked
    ] in
    let here : Stored = record { version = c.self-2.inside.version; standing = c.self-2.inside.standing; manifest = c.self-2.inside.manifest; log = c.self-2.inside.wal; next = c.draw.new.self; last = c.self-2.inside.last; memory = c.self-2.inside.memory; waiting = c.self-2.inside.waiting; broken = c.self-2.inside.broken } in
    let usable : here.broken ≡ false = ap (λ (x : Stored). x.broken) c.self-2.view_is ∙ c.in_ok-sync_log.ensures.breaks.ok in
    always_breaks s c.make_log.result c.args.self.now c.make_log.new.self c.args.site.now c.make_log.new.site
    (on_err c.make_log.result (λ e. ap (λ (x : Stored). x.broken) e) c.make_log.ensures.broken)
    (on_ok c.make_log.result (λ e. ap (λ (x : Stored). x.broken) e ∙ usable) c.make_log.ensures.switched)
    c.make_log.ensures.causes rose

pub returns-clause-stands : goal.returns-clause-stands
returns-clause-stands g c = λ shown names held t.
    let s = g.S.Site in
    let mid = s.disk c.sync_log.new.site in
    let i = c.self-2.inside in
    let here : Stored = record { version = i.version; standing = i.standing; manifest = i.manifest; log = i.wal; next = i.numbers; last = i.last; memory = i.memory; waiting = i.waiting; broken = i.broken } in
    let number = c.in_ok-number.number in
    let drawn : number ≡ i.numbers = c.in_ok-number.ensures.drawn.0 in
    let path : undrawn number (record here { next = c.draw.new.self }) ≡ c.sync_log.new.self = (λ k. record here { next = drawn k }) ∙ c.self-2.view_is in
    leaves_then names held c.make_log.result c.make_log.new.self (s.disk c.make_log.new.site) (within_durable names held c.args.self.now (s.disk c.args.site.now) t)
    (c.make_log.ensures.stands shown names held (subst (λ x. StandsFor names (all_durable held) x mid) (sym path) (c.in_ok-sync_log.ensures.stands shown names held t).ok))

pub returns-clause-cuts : goal.returns-clause-cuts
returns-clause-cuts g c = λ shown sure held t.
    let s = g.S.Site in
    let old = c.args.site.now in
    let mid = c.sync_log.new.site in
    let new = c.make_log.new.site in
    let i = c.self-2.inside in
    let here : Stored = record { version = i.version; standing = i.standing; manifest = i.manifest; log = i.wal; next = i.numbers; last = i.last; memory = i.memory; waiting = i.waiting; broken = i.broken } in
    let number = c.in_ok-number.number in
    let drawn : number ≡ i.numbers = c.in_ok-number.ensures.drawn.0 in
    let path : undrawn number (record here { next = c.draw.new.self }) ≡ c.sync_log.new.self = (λ k. record here { next = drawn k }) ∙ c.self-2.view_is in
    let then_ = subst (λ x. StandsFor [] (all_durable held) x (s.disk mid)) (sym path) (c.in_ok-sync_log.ensures.stands shown [] held t).ok in
    let sure_then = c.in_ok-sync_log.ensures.own.certain shown sure in
    both_parts s old mid new (LeavesMap (maps_of held) held.durable (length held.writes)) (c.in_ok-sync_log.ensures.own.tells_nothing.told shown) (c.in_ok-sync_log.ensures.cuts shown sure held t)
    (widened s.clock s.left_since mid new (LeavesMap (maps_of held) (length held.writes) (length held.writes) (s.told mid)) (LeavesMap (maps_of held) held.durable (length held.writes) (s.told mid))
    (λ k l. leaves_within (maps_of held) (length held.writes) held.durable (length held.writes) (length held.writes) (s.told mid) k (within_durable [] held c.args.self.now (s.disk old) t) (omega arith) l)
    (c.make_log.ensures.cuts shown sure_then held then_))

pub returns-clause-own : goal.returns-clause-own
returns-clause-own g c =
    let s = g.S.Site in
    let i = c.self-2.inside in
    let here : Stored = record { version = i.version; standing = i.standing; manifest = i.manifest; log = i.wal; next = i.numbers; last = i.last; memory = i.memory; waiting = i.waiting; broken = i.broken } in
    let number = c.in_ok-number.number in
    let drawn : number ≡ i.numbers = c.in_ok-number.ensures.drawn.0 in
    let next_is : c.draw.new.self ≡ i.numbers + 1 = c.in_ok-number.ensures.drawn.2 in
    let path : undrawn number (record here { next = c.draw.new.self }) ≡ c.sync_log.new.self = (λ k. record here { next = drawn k }) ∙ c.self-2.view_is in
    let same = c.in_ok-sync_log.ensures.same in
    let first : c.sync_log.new.self.next ≡ c.args.self.now.next = ap (λ (x : Stored). x.next) same in
    let inside : i.numbers ≡ c.sync_log.new.self.next = ap (λ (x : Stored). x.next) c.self-2.view_is in
    let last : c.make_log.new.self.next ≡ c.draw.new.self = c.make_log.ensures.next in
    own_join c.args.self.now c.sync_log.new.self c.make_log.new.self (omega (arith, first)) (omega (arith, inside, last, next_is)) (inl (ap (λ (x : Stored). x.log.number) same)) (ap (λ (x : Stored). x.manifest.number) same)
    s c.make_log.result c.in_ok-sync_log.field-0 c.args.site.now c.sync_log.new.site c.make_log.new.site c.in_ok-sync_log.ensures.own
    (subst (λ x. WritesOwn s c.make_log.result x c.make_log.new.self c.sync_log.new.site c.make_log.new.site) path c.make_log.ensures.own)

pub returns-then-next-eq-FILE_LIMIT-clause-gives : goal.returns-then-next-eq-FILE_LIMIT-clause-gives
returns-then-next-eq-FILE_LIMIT-clause-gives g c = λ shown names held t.
    c.stores_give_their_map.ensures names held c.args.self.now (g.S.Site.disk c.args.site.now) (subst IsInOrder c.self.view_is c.self.invariant) c.requires.usable t

pub returns-in_err-sync_log-clause-gives : goal.returns-in_err-sync_log-clause-gives
returns-in_err-sync_log-clause-gives g c = λ shown names held t.
    on_any_err c.from_residual.result (GivesMap (now_of held) c.sync_log.new.self (g.S.Site.disk c.sync_log.new.site)) (c.in_err-sync_log.ensures.gives shown names held t)

pub returns-clause-gives : goal.returns-clause-gives
returns-clause-gives g c = λ shown names held t.
    let s = g.S.Site in
    let mid = s.disk c.sync_log.new.site in
    let i = c.self-2.inside in
    let here : Stored = record { version = i.version; standing = i.standing; manifest = i.manifest; log = i.wal; next = i.numbers; last = i.last; memory = i.memory; waiting = i.waiting; broken = i.broken } in
    let number = c.in_ok-number.number in
    let drawn : number ≡ i.numbers = c.in_ok-number.ensures.drawn.0 in
    let path : undrawn number (record here { next = c.draw.new.self }) ≡ c.sync_log.new.self = (λ k. record here { next = drawn k }) ∙ c.self-2.view_is in
    c.make_log.ensures.gives shown names held (subst (λ x. StandsFor names (all_durable held) x mid) (sym path) (c.in_ok-sync_log.ensures.stands shown names held t).ok)
