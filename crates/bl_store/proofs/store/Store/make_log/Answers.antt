use Rattle.std.proofs.Common.{◌≡◌, ◌+◌, length, false, true, refl, sym, ◌∙◌, ap, subst, inl, inr, [], List, None, Some, Err, Ok, IsSome}
use Rattle.bl_site.specs.Calls.{Creates, DoneOrNot}
use Rattle.bl_names.specs.Names.{IsNumber, manifest_name}
use Rattle.bl_entry.specs.declared.key.Entry.{Entry}
use Rattle.bl_wal.specs.LogFile.{LogFile, log_name}
use Rattle.bl_open.specs.Replaying.{IsFilled}
use Rattle.bl_open.specs.SteadyCuts.{LeavesMap}
use Rattle.bl_store.specs.Calls.{LeavesStore}
use Rattle.bl_store.specs.Held.{all_durable, maps_of}
use Rattle.bl_store.specs.Standing.{StandsFor}
use Rattle.bl_store.specs.Stored.{Stored}
use Rattle.bl_store.specs.Switching.{switched, undrawn}
use Rattle.bl_store.proofs.MomentLemmas.{cut_of, one_name_call, settled_of}
use Rattle.bl_store.proofs.OwnLemmas.{log_made, still_there_or}
use Rattle.bl_store.proofs.SwitchLemmas.{cut_making, plain_of, settled_either, switch_stands, true_false}
use Rattle.bl_store.proofs.GivesLemmas.{KeptLaws, still_gives, undrawn_in_order}
use Rattle.bl_store.specs.Reading.{view_of}
use Rattle.bl_store.specs.Stored.{IsInOrder}
use Rattle.bl_store.proofs.store.Store.make_log.Goals as goal

pub invariant_of-self : goal.invariant_of-self
invariant_of-self g c =
    let i = c.self.inside in
    let v = c.self.invariant in
    let usable : i.broken ≡ false = ap (λ (s : Stored). s.broken) c.self.view_is ∙ c.requires.usable in
    let empty : c.replace-memory.new.dest ≡ [] = c.replace-memory.ensures.after ∙ c.start.ensures in
    let was : c.replace-memory.result ≡ i.memory = c.replace-memory.ensures.value in
    let filled = v.filled usable in
    record {
      log_number = subst (λ (l : LogFile). IsNumber l.number) (sym c.in-Ok.ensures.made) c.requires.number;
      manifest_number = v.manifest_number;
      log = λ no. ap (λ (l : LogFile). l.failed) c.in-Ok.ensures.made;
      manifest = v.manifest;
      filled = λ no. subst (λ (es : List Entry). IsFilled es i.last) (sym empty) (record { batches = []; fit = tt; holds = c.batches_are_held.ensures.none i.last });
      waits = record { plain = subst Rattle.bl_flush.specs.Jobs.ArePutsAndDeletions (sym was) (plain_of c.memories_tell_what_was_inserted.ensures.memory i.memory i.last filled); last = v.last; log = c.requires.number };
      last = v.last;
      next = v.next;
    }

pub returns-in-Ok-clause-stands : goal.returns-in-Ok-clause-stands
returns-in-Ok-clause-stands g c = λ shown names held.
    let old = g.S.Site.disk c.args.site.now in
    let new = g.S.Site.disk c.create.new.site in
    let i = c.self.inside in
    let here : Stored = record { version = i.version; standing = i.standing; manifest = i.manifest; log = i.wal; next = i.numbers; last = i.last; memory = i.memory; waiting = i.waiting; broken = i.broken } in
    let number = c.args.number in
    let e = c.in-Ok.ensures in
    let v = c.self.invariant in
    let empty : c.replace-memory.new.dest ≡ [] = c.replace-memory.ensures.after ∙ c.start.ensures in
    let usable : i.broken ≡ false = ap (λ (s : Stored). s.broken) c.self.view_is ∙ c.requires.usable in
    let next : i.numbers ≡ number + 1 = ap (λ (s : Stored). s.next) c.self.view_is ∙ c.requires.drawn in
    let none : i.waiting ≡ None = ap (λ (s : Stored). s.waiting) c.self.view_is ∙ c.requires.none in
    let result : Stored = record here { log = c.in-Ok.wal; memory = c.replace-memory.new.dest; waiting = Some (record { memory = c.replace-memory.result; last = i.last; log = number }) } in
    let same : switched number here ≡ result = λ k. record here { log = sym e.made k; next = sym next k; memory = sym empty k; waiting = Some (record { memory = sym c.replace-memory.ensures.value k; last = i.last; log = number }) } in
    let P : Stored → Type 0 = λ s. StandsFor names (all_durable held) (undrawn number s) old → LeavesStore {T = Unit {0}} names (all_durable held) (all_durable held) (Ok (tt {0})) result new in
    subst P c.self.view_is (λ t.
    let stands : StandsFor names (all_durable held) (switched number here) new =
    switch_stands c.names_one.ensures names held number here old t new c.requires.number (e.created shown) c.writes_keep_disks_steady.ensures.switches (v.log usable) (e.holds shown)
    c.logs_are_read.ensures c.batches_join.ensures.counted c.memories_tell_what_was_inserted.ensures.memory c.batches_are_held.ensures.none none in
    subst (λ (s : Stored). LeavesStore {T = Unit {0}} names (all_durable held) (all_durable held) (Ok (tt {0})) s new) same
    (record {
      ok = stands;
      err = tt;
      settled = λ no chance. settled_of c.steady_disks_stand.ensures.settled (all_durable held) (switched number here) new (subst (λ ns. StandsFor ns (all_durable held) (switched number here) new) no stands) (v.manifest usable);
    }))

pub returns-in-Ok-clause-cuts : goal.returns-in-Ok-clause-cuts
returns-in-Ok-clause-cuts g c = λ shown sure held.
    let s = g.S.Site in
    let old = c.args.site.now in
    let new = c.create.new.site in
    let number = c.args.number in
    λ t.
    one_name_call s (Creates (log_name number)) old new (LeavesMap (maps_of held) (length held.writes) (length held.writes)) (λ other. g.met.S.Site.only shown old other sure) (g.met.S.Site.only_now shown old)
    (c.create.ensures.time shown)
    (λ k cut. cut_of c.steady_disks_are_left.ensures.cuts (all_durable held) (undrawn number c.args.self.now) (s.disk old) (s.told old) k t cut)
    (λ after k made cut. cut_making c.names_one.ensures held number c.args.self.now (s.disk old) t c.quiet_calls_keep_disks_steady.ensures.logs c.quiet_calls_keep_disks_steady.ensures.keeps after c.requires.number made
    c.steady_disks_are_left.ensures.cuts (s.told old) k cut)

pub returns-in-Err-clause-cuts : goal.returns-in-Err-clause-cuts
returns-in-Err-clause-cuts g c = λ shown sure held.
    let s = g.S.Site in
    let old = c.args.site.now in
    let new = c.create.new.site in
    let number = c.args.number in
    λ t.
    one_name_call s (Creates (log_name number)) old new (LeavesMap (maps_of held) (length held.writes) (length held.writes)) (λ other. g.met.S.Site.only shown old other sure) (g.met.S.Site.only_now shown old)
    (c.create.ensures.time shown)
    (λ k cut. cut_of c.steady_disks_are_left.ensures.cuts (all_durable held) (undrawn number c.args.self.now) (s.disk old) (s.told old) k t cut)
    (λ after k made cut. cut_making c.names_one.ensures held number c.args.self.now (s.disk old) t c.quiet_calls_keep_disks_steady.ensures.logs c.quiet_calls_keep_disks_steady.ensures.keeps after c.requires.number made
    c.steady_disks_are_left.ensures.cuts (s.told old) k cut)

pub returns-in-Ok-clause-own : goal.returns-in-Ok-clause-own
returns-in-Ok-clause-own g c =
    let s = g.S.Site in
    let old = c.args.site.now in
    let new = c.create.new.site in
    let i = c.self.inside in
    let number = c.args.number in
    let e = c.in-Ok.ensures in
    let next : i.numbers ≡ number + 1 = ap (λ (x : Stored). x.next) c.self.view_is ∙ c.requires.drawn in
    let manifest : c.args.self.now.manifest.number ≡ i.manifest.number = ap (λ (x : Stored). x.manifest.number) (sym c.self.view_is) in
    log_made s (Ok (tt {0})) (undrawn number c.args.self.now) _ number old new e.tells_nothing c.requires.number refl next (λ shown. inr (e.created shown))
    (λ shown. record {
      manifest = subst (λ n. IsSome (s.disk new (manifest_name n))) manifest (still_there_or (log_name number) (manifest_name c.args.self.now.manifest.number) (s.disk old) (s.disk new) (inr (e.created shown)) (c.requires.there shown).manifest);
      log = subst (λ (l : LogFile). IsSome (s.disk new (log_name l.number))) (sym e.made) (subst IsSome (sym (e.created shown).at) refl);
    })
    (λ shown sure. e.certain shown)

pub returns-in-Err-clause-stands : goal.returns-in-Err-clause-stands
returns-in-Err-clause-stands g c = λ shown names held t.
    let s = g.S.Site in
    let old = s.disk c.args.site.now in
    let new = s.disk c.create.new.site in
    let i = c.self.inside in
    let number = c.args.number in
    let e = c.in-Err.ensures in
    let usable : i.broken ≡ false = ap (λ (x : Stored). x.broken) c.self.view_is ∙ c.requires.usable in
    let works : c.args.self.now.manifest.failed ≡ false = ap (λ (x : Stored). x.manifest.failed) (sym c.self.view_is) ∙ c.self.invariant.manifest usable in
    let either : DoneOrNot (Creates (log_name number)) old new = elim e.errors [
      | inl failed ↦ e.failed shown (ap Err failed)
      | inr memory ↦ inl (e.keeps shown (ap Err memory)).same
    ] in
    record {
      ok = tt;
      err = λ no. absurd (true_false no);
      settled = λ none chance. settled_either c.names_one.ensures held number c.args.self.now old (subst (λ ns. StandsFor ns (all_durable held) (undrawn number c.args.self.now) old) none t)
          c.quiet_calls_keep_disks_steady.ensures.logs c.quiet_calls_keep_disks_steady.ensures.keeps new c.requires.number either c.steady_disks_stand.ensures.settled works;
    }

pub returns-in-Err-clause-own : goal.returns-in-Err-clause-own
returns-in-Err-clause-own g c =
    let s = g.S.Site in
    let old = c.args.site.now in
    let new = c.create.new.site in
    let i = c.self.inside in
    let number = c.args.number in
    let e = c.in-Err.ensures in
    let next : i.numbers ≡ number + 1 = ap (λ (x : Stored). x.next) c.self.view_is ∙ c.requires.drawn in
    let manifest : c.args.self.now.manifest.number ≡ i.manifest.number = ap (λ (x : Stored). x.manifest.number) (sym c.self.view_is) in
    let log : c.args.self.now.log.number ≡ i.wal.number = ap (λ (x : Stored). x.log.number) (sym c.self.view_is) in
    let either : s.shows → DoneOrNot (Creates (log_name number)) (s.disk old) (s.disk new) = λ shown. elim e.errors [
      | inl failed ↦ e.failed shown (ap Err failed)
      | inr memory ↦ inl (e.keeps shown (ap Err memory)).same
    ] in
    log_made s (Err c.into.result) (undrawn number c.args.self.now) _ number old new e.tells_nothing c.requires.number refl next either
    (λ shown. record {
      manifest = subst (λ n. IsSome (s.disk new (manifest_name n))) manifest (still_there_or (log_name number) (manifest_name c.args.self.now.manifest.number) (s.disk old) (s.disk new) (either shown) (c.requires.there shown).manifest);
      log = subst (λ n. IsSome (s.disk new (log_name n))) log (still_there_or (log_name number) (log_name c.args.self.now.log.number) (s.disk old) (s.disk new) (either shown) (c.requires.there shown).log);
    })
    (λ shown sure. tt)

pub returns-in-Err-clause-gives : goal.returns-in-Err-clause-gives
returns-in-Err-clause-gives g c = λ shown names held t.
    let s = g.S.Site in
    let old = s.disk c.args.site.now in
    let new = s.disk c.create.new.site in
    let number = c.args.number in
    let i = c.self.inside in
    let here : Stored = record { version = i.version; standing = i.standing; manifest = i.manifest; log = i.wal; next = i.numbers; last = i.last; memory = i.memory; waiting = i.waiting; broken = i.broken } in
    let order : IsInOrder c.args.self.now = subst IsInOrder c.self.view_is c.self.invariant in
    let laws : KeptLaws = record { one = c.names_one.ensures; whole = c.held_are_whole.ensures; written = c.steady_disks_stand.ensures.written; gives = c.stores_give_their_map.ensures } in
    still_gives laws names (all_durable held) (undrawn number c.args.self.now) (record here { broken = true }) old new (undrawn_in_order number c.args.self.now order c.requires.drawn) c.requires.usable t ((returns-in-Err-clause-own g c).others shown)
    (ap view_of c.self.view_is) (ap (λ (x : Stored). x.last) c.self.view_is)
