use Rattle.std.proofs.Common.{◌≡◌, ℕ, ◌+◌, length, false, sym, ◌∙◌, ap, subst, List}
use Rattle.bl_site.specs.Calls.{LeavesOnly}
use Rattle.bl_site.specs.Disk.{Cut}
use Rattle.bl_open.specs.SteadyCuts.{LeavesMap}
use Rattle.bl_store.specs.Held.{maps_of, with_write}
use Rattle.bl_store.specs.Standing.{StandsFor}
use Rattle.bl_store.specs.Stored.{Stored}
use Rattle.bl_store.proofs.HeldLemmas.{one_longer}
use Rattle.bl_store.proofs.MomentLemmas.{cut_more, cut_of, no_call, settled_of}
use Rattle.bl_store.specs.Stored.{IsInOrder}
use Rattle.bl_store.proofs.store.Store.write.Goals as goal

pub returns-then-from-self-clause-stands : goal.returns-then-from-self-clause-stands
returns-then-from-self-clause-stands g c = λ shown usable names held t.
    let old = g.S.Site.disk c.args.site.now in
    let inside : c.self.inside.broken ≡ false = ap (λ (x : Stored). x.broken) c.self.view_is ∙ usable in
    let works : c.args.self.now.manifest.failed ≡ false = ap (λ (x : Stored). x.manifest.failed) (sym c.self.view_is) ∙ c.self.invariant.manifest inside in
    record {
      ok = tt;
      err = λ no_. t;
      settled = λ none chance. settled_of c.steady_disks_stand.ensures.settled held c.args.self.now old (subst (λ ns. StandsFor ns held c.args.self.now old) none t) works;
    }

pub returns-then-from-self-clause-cuts : goal.returns-then-from-self-clause-cuts
returns-then-from-self-clause-cuts g c = λ shown sure usable held t.
    let s = g.S.Site in
    let old = c.args.site.now in
    let w = c.args.batch.now in
    let Q : List ℕ → Cut → Type 0 = LeavesMap (maps_of (with_write w held)) held.durable (length held.writes + 1) in
    subst (λ (n : ℕ). LeavesOnly s.clock s.left_since old old (LeavesMap (maps_of (with_write w held)) held.durable n (s.told old))) (sym (one_longer held w))
    (no_call s old Q (λ other. g.met.S.Site.only shown old other sure) (g.met.S.Site.only_now shown old)
    (λ k cut. cut_more held w held.durable (s.told old) k (cut_of c.steady_disks_are_left.ensures.cuts held c.args.self.now (s.disk old) (s.told old) k t cut)))

pub returns-then-bytes-self-clause-stands : goal.returns-then-bytes-self-clause-stands
returns-then-bytes-self-clause-stands g c = λ shown usable names held t. c.append.ensures.stands shown names held t

pub returns-then-bytes-self-clause-cuts : goal.returns-then-bytes-self-clause-cuts
returns-then-bytes-self-clause-cuts g c = λ shown sure usable held t. c.append.ensures.cuts shown sure held t

pub returns-clause-stands : goal.returns-clause-stands
returns-clause-stands g c = λ shown usable names held t. c.write_behind_room-written.ensures.stands shown names held t

pub returns-clause-cuts : goal.returns-clause-cuts
returns-clause-cuts g c = λ shown sure usable held t. c.write_behind_room-written.ensures.cuts shown sure held t

pub returns-then-from-self-clause-gives : goal.returns-then-from-self-clause-gives
returns-then-from-self-clause-gives g c = λ shown usable names held t.
    c.stores_give_their_map.ensures names held c.args.self.now (g.S.Site.disk c.args.site.now) (subst IsInOrder c.self.view_is c.self.invariant) usable t

pub returns-then-bytes-self-clause-gives : goal.returns-then-bytes-self-clause-gives
returns-then-bytes-self-clause-gives g c = λ shown usable names held t. c.append.ensures.gives shown names held t

pub returns-clause-gives : goal.returns-clause-gives
returns-clause-gives g c = λ shown usable names held t. c.write_behind_room-written.ensures.gives shown names held t
