use Rattle.std.proofs.Common.{◌≡◌, length, refl, true, false, ◌∙◌, ap, subst, inl, inr, [], Err, Ok}
use Rattle.bl_site.specs.Disk.{Disk}
use Rattle.bl_wal.specs.LogFile.{LogFile, log_name}
use Rattle.bl_open.specs.SteadyCalls.{KeepsAllBut}
use Rattle.bl_open.specs.SteadyCuts.{LeavesMap}
use Rattle.bl_store.specs.Calls.{CutsOfCall, LeavesStore}
use Rattle.bl_store.specs.Held.{all_durable, maps_of}
use Rattle.bl_store.specs.Standing.{StandsFor}
use Rattle.bl_store.specs.Stored.{Stored}
use Rattle.bl_store.proofs.LogLemmas.{log_there, more_stand, some_stand, sync_done, sync_failed}
use Rattle.bl_store.proofs.MomentLemmas.{cut_of, one_call}
use Rattle.bl_store.proofs.GivesLemmas.{KeptLaws, still_gives}
use Rattle.bl_store.specs.Reading.{StillGives}
use Rattle.bl_store.proofs.store.Store.sync_log.Goals as goal

pub returns-in-Err-clause-stands : goal.returns-in-Err-clause-stands
returns-in-Err-clause-stands g c = λ shown names held.
    let old = g.S.Site.disk c.args.site.now in
    let new = g.S.Site.disk c.sync.new.site in
    let i = c.self.inside in
    let here : Stored = record { version = i.version; standing = i.standing; manifest = i.manifest; log = i.wal; next = i.numbers; last = i.last; memory = i.memory; waiting = i.waiting; broken = i.broken } in
    let e = c.in-Err.ensures in
    let P : Stored → Type 0 = λ s. StandsFor names held s old → LeavesStore {T = Unit {0}} names held (all_durable held) (Err c.into.result) (record here { log = c.sync.new.self; broken = true }) new in
    let keeps : KeepsAllBut (log_name here.log.number) old new = elim e.errors [
      | inl failed ↦ (e.frayed shown (ap Err failed)).puts.others
      | inr memory ↦ λ other ne. ap (λ (d : Disk). d other) (e.touches.keeps shown (ap Err memory)).same
    ] in
    let usable : here.manifest.failed ≡ false = c.self.invariant.manifest (ap (λ (s : Stored). s.broken) c.self.view_is ∙ c.requires.usable) in
    subst P c.self.view_is (λ t.
    sync_failed c.names_one.ensures c.writes_keep_disks_steady.ensures.syncs names held here old new t c.sync.new.self (ap (λ (l : LogFile). l.number) e.fails) keeps
    c.steady_disks_stand.ensures.settled usable c.into.result (e.holds shown t.steady.own t.steady.synced (log_there c.names_one.ensures names held here old t)))

pub returns-clause-stands : goal.returns-clause-stands
returns-clause-stands g c = λ shown names held.
    let old = g.S.Site.disk c.args.site.now in
    let new = g.S.Site.disk c.sync.new.site in
    let i = c.self.inside in
    let here : Stored = record { version = i.version; standing = i.standing; manifest = i.manifest; log = i.wal; next = i.numbers; last = i.last; memory = i.memory; waiting = i.waiting; broken = i.broken } in
    let e = c.in_default.ensures in
    let P : Stored → Type 0 = λ s. StandsFor names held s old → LeavesStore {T = Unit {0}} names held (all_durable held) (Ok (tt {0})) (record here { log = c.sync.new.self }) new in
    let usable : here.manifest.failed ≡ false = c.self.invariant.manifest (ap (λ (s : Stored). s.broken) c.self.view_is ∙ c.requires.usable) in
    subst P c.self.view_is (λ t.
    sync_done c.names_one.ensures c.writes_keep_disks_steady.ensures.syncs names held here old new t c.sync.new.self (ap (λ (l : LogFile). l.number) e.stays) (e.synced shown).puts.others
    c.steady_disks_stand.ensures.settled usable here.broken (e.holds shown t.steady.own t.steady.synced (log_there c.names_one.ensures names held here old t)))

pub returns-in-Err-clause-cuts : goal.returns-in-Err-clause-cuts
returns-in-Err-clause-cuts g c = λ shown sure held.
    let s = g.S.Site in
    let old = c.args.site.now in
    let new = c.sync.new.site in
    let i = c.self.inside in
    let here : Stored = record { version = i.version; standing = i.standing; manifest = i.manifest; log = i.wal; next = i.numbers; last = i.last; memory = i.memory; waiting = i.waiting; broken = i.broken } in
    let e = c.in-Err.ensures in
    let keeps : KeepsAllBut (log_name here.log.number) (s.disk old) (s.disk new) = elim e.errors [
      | inl failed ↦ (e.frayed shown (ap Err failed)).puts.others
      | inr memory ↦ λ other ne. ap (λ (d : Disk). d other) (e.touches.keeps shown (ap Err memory)).same
    ] in
    let cuts = c.steady_disks_are_left.ensures.cuts in
    let P : Stored → Type 0 = λ x. StandsFor [] held x (s.disk old) → CutsOfCall s held (all_durable held) old new in
    subst P c.self.view_is (λ t.
    one_call s old new (LeavesMap (maps_of held) held.durable (length held.writes)) (λ other. g.met.S.Site.only shown old other sure) (g.met.S.Site.only_now shown old)
    (λ other. g.met.S.Site.only shown new other (e.touches.certain shown sure)) (e.tells_nothing.told shown) (e.touches.time shown)
    (λ k cut. cut_of cuts held here (s.disk old) (s.told old) k t cut)
    (λ k cut. cut_of cuts held (record here { log = c.sync.new.self; broken = true }) (s.disk new) (s.told new) k
    (some_stand c.names_one.ensures c.writes_keep_disks_steady.ensures.syncs [] held here (s.disk old) (s.disk new) t c.sync.new.self (ap (λ (l : LogFile). l.number) e.fails) keeps true
    (e.holds shown t.steady.own t.steady.synced (log_there c.names_one.ensures [] held here (s.disk old) t))) cut))

pub returns-clause-cuts : goal.returns-clause-cuts
returns-clause-cuts g c = λ shown sure held.
    let s = g.S.Site in
    let old = c.args.site.now in
    let new = c.sync.new.site in
    let i = c.self.inside in
    let here : Stored = record { version = i.version; standing = i.standing; manifest = i.manifest; log = i.wal; next = i.numbers; last = i.last; memory = i.memory; waiting = i.waiting; broken = i.broken } in
    let e = c.in_default.ensures in
    let cuts = c.steady_disks_are_left.ensures.cuts in
    let P : Stored → Type 0 = λ x. StandsFor [] held x (s.disk old) → CutsOfCall s held (all_durable held) old new in
    subst P c.self.view_is (λ t.
    one_call s old new (LeavesMap (maps_of held) held.durable (length held.writes)) (λ other. g.met.S.Site.only shown old other sure) (g.met.S.Site.only_now shown old)
    (λ other. g.met.S.Site.only shown new other (e.touches.certain shown sure)) (e.tells_nothing.told shown) (e.touches.time shown)
    (λ k cut. cut_of cuts held here (s.disk old) (s.told old) k t cut)
    (λ k cut. cut_of cuts held (record here { log = c.sync.new.self }) (s.disk new) (s.told new) k
    (more_stand c.names_one.ensures c.writes_keep_disks_steady.ensures.syncs [] held here (s.disk old) (s.disk new) t c.sync.new.self (ap (λ (l : LogFile). l.number) e.stays) (e.synced shown).puts.others here.broken
    (e.holds shown t.steady.own t.steady.synced (log_there c.names_one.ensures [] held here (s.disk old) t))) cut))

pub returns-in-Err-clause-gives : goal.returns-in-Err-clause-gives
returns-in-Err-clause-gives g c = λ shown names held.
    let old = g.S.Site.disk c.args.site.now in
    let new = g.S.Site.disk c.sync.new.site in
    let i = c.self.inside in
    let here : Stored = record { version = i.version; standing = i.standing; manifest = i.manifest; log = i.wal; next = i.numbers; last = i.last; memory = i.memory; waiting = i.waiting; broken = i.broken } in
    let e = c.in-Err.ensures in
    let usable : i.broken ≡ false = ap (λ (x : Stored). x.broken) c.self.view_is ∙ c.requires.usable in
    let keeps : KeepsAllBut (log_name here.log.number) old new = elim e.errors [
      | inl failed ↦ (e.frayed shown (ap Err failed)).puts.others
      | inr memory ↦ λ other ne. ap (λ (d : Disk). d other) (e.touches.keeps shown (ap Err memory)).same
    ] in
    let laws : KeptLaws = record { one = c.names_one.ensures; whole = c.held_are_whole.ensures; written = c.steady_disks_stand.ensures.written; gives = c.stores_give_their_map.ensures } in
    let P : Stored → Type 0 = λ x. StandsFor names held x old → StillGives {T = Unit {0}} held (Err c.into.result) (record here { log = c.sync.new.self; broken = true }) new in
    subst P c.self.view_is (λ t.
    still_gives laws names held here (record here { log = c.sync.new.self; broken = true }) old new c.self.invariant usable t (λ name own. keeps name (λ is. own (inl is))) refl refl)
