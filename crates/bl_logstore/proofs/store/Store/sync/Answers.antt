use Rattle.std.proofs.Common.{ℕ, length, arith, ap, subst, Err, inl, inr}
use Rattle.bl_site.specs.Disk.{Disk}
use Rattle.bl_wal.specs.LogFile.{LogFile, log_name}
use Rattle.bl_records.proofs.HeldLemmas.{within_of}
use Rattle.bl_wal.specs.Held.{record_of}
use Rattle.bl_logstore.specs.Stored.{Stored, map_in, StandsOn, Carries, KeepsAllBut}
use Rattle.bl_logstore.proofs.CarryLemmas.{changes}
use Rattle.bl_logstore.proofs.FolderLemmas.{sync_keeps}
use Rattle.bl_logstore.proofs.MomentLemmas.{still_stands, sync_stands}
use Rattle.bl_logstore.proofs.OtherLemmas.{all_same}
use Rattle.bl_logstore.proofs.store.Store.sync.Goals as goal

pub returns-in-Err-clause-held : goal.returns-in-Err-clause-held
returns-in-Err-clause-held g c = λ shown older own synced.
    let old = g.S.Site.disk c.args.site.now in
    let new = g.S.Site.disk c.sync.new.site in
    let here : Stored = record { log = c.self.inside.wal; last = c.self.inside.last; now = map_in c.self.inside.map.entries; broken = c.self.inside.broken } in
    let P : Stored → Type 0 = λ s. Carries s older own synced old → StandsOn c.sync.new.self older own synced s.last new in
    subst P c.self.view_is (λ carries.
    changes c.names_one.ensures here.log older own synced here.last old new c.sync.new.self own synced here.last carries.on (ap (λ (l : LogFile). l.number) c.in-Err.ensures.fails)
    (elim c.in-Err.ensures.errors [
      | inl d ↦ (c.in-Err.ensures.frayed shown (ap Err d)).puts.others
      | inr m ↦ λ other ne. ap (λ (d : Disk). d other) (c.in-Err.ensures.touches.keeps shown (ap Err m)).same
    ]) (c.in-Err.ensures.holds shown own synced carries.on.holds) carries.on.follow)

pub returns-clause-carried : goal.returns-clause-carried
returns-clause-carried g c = λ shown older own synced.
    let old = g.S.Site.disk c.args.site.now in
    let new = g.S.Site.disk c.sync.new.site in
    let here : Stored = record { log = c.self.inside.wal; last = c.self.inside.last; now = map_in c.self.inside.map.entries; broken = c.self.inside.broken } in
    let next : Stored = record { log = c.sync.new.self; last = c.self.inside.last; now = map_in c.self.inside.map.entries; broken = c.self.inside.broken } in
    let P : Stored → Type 0 = λ s. Carries s older own synced old → Carries next older own (length own) new in
    subst P c.self.view_is (λ carries. record {
      on = changes c.names_one.ensures here.log older own synced here.last old new c.sync.new.self own (length own) here.last carries.on (ap (λ (l : LogFile). l.number) c.in_default.ensures.stays)
          (c.in_default.ensures.synced shown).puts.others (c.in_default.ensures.holds shown own synced carries.on.holds) carries.on.follow;
      now_is = carries.now_is;
    })

pub returns-clause-reads : goal.returns-clause-reads
returns-clause-reads g c = λ shown. sync_keeps _ (g.S.Site.disk c.args.site.now) (g.S.Site.disk c.sync.new.site) (c.in_default.ensures.synced shown)

pub returns-in-Err-clause-others : goal.returns-in-Err-clause-others
returns-in-Err-clause-others g c = λ shown.
    let old = g.S.Site.disk c.args.site.now in
    let new = g.S.Site.disk c.sync.new.site in
    let here : Stored = record { log = c.self.inside.wal; last = c.self.inside.last; now = map_in c.self.inside.map.entries; broken = c.self.inside.broken } in
    let P : Stored → Type 0 = λ s. KeepsAllBut (log_name s.log.number) old new in
    subst P c.self.view_is (elim c.in-Err.ensures.errors [
      | inl failed ↦ (c.in-Err.ensures.frayed shown (ap Err failed)).puts.others
      | inr memory ↦ all_same (log_name here.log.number) old new (c.in-Err.ensures.touches.keeps shown (ap Err memory)).same
    ])

pub returns-clause-others : goal.returns-clause-others
returns-clause-others g c = λ shown.
    let P : Stored → Type 0 = λ s. KeepsAllBut (log_name s.log.number) (g.S.Site.disk c.args.site.now) (g.S.Site.disk c.sync.new.site) in
    subst P c.self.view_is (c.in_default.ensures.synced shown).puts.others

pub returns-then-self-clause-cuts : goal.returns-then-self-clause-cuts
returns-then-self-clause-cuts g c = λ shown sure older own synced carries.
    let site = g.S.Site in
    let old = c.args.site.now in
    let store = c.args.self.now in
    still_stands site c.cuts_stand.ensures old (g.met.S.Site.only_now shown old) (λ other. g.met.S.Site.only shown old other sure)
    store.log older own synced store.last carries.on

pub returns-in-Err-clause-cuts : goal.returns-in-Err-clause-cuts
returns-in-Err-clause-cuts g c = λ shown sure older own synced carries.
    let site = g.S.Site in
    let old = c.args.site.now in
    let store = c.args.self.now in
    let new = c.sync.new.site in
    sync_stands site c.cuts_stand.ensures old (g.met.S.Site.only_now shown old) (λ other. g.met.S.Site.only shown old other sure)
    store.log older own synced store.last carries.on new c.sync.new.self synced (c.sync.ensures.tells_nothing.told shown)
    (λ other. g.met.S.Site.only shown new other (c.sync.ensures.touches.certain shown sure)) (c.sync.ensures.touches.time shown) (omega arith) (returns-in-Err-clause-held g c shown older own synced carries)

pub returns-clause-cuts : goal.returns-clause-cuts
returns-clause-cuts g c = λ shown sure older own synced carries.
    let site = g.S.Site in
    let old = c.args.site.now in
    let store = c.args.self.now in
    let new = c.sync.new.site in
    let L : ℕ → Type 0 = λ l. StandsOn c.sync.new.self older own (length own) l (site.disk new) in
    sync_stands site c.cuts_stand.ensures old (g.met.S.Site.only_now shown old) (λ other. g.met.S.Site.only shown old other sure)
    store.log older own synced store.last carries.on new c.sync.new.self (length own) (c.sync.ensures.tells_nothing.told shown)
    (λ other. g.met.S.Site.only shown new other (c.sync.ensures.touches.certain shown sure)) (c.sync.ensures.touches.time shown) (within_of record_of own synced carries.on.holds.within) (subst L (ap (λ (s : Stored). s.last) c.self.view_is) (returns-clause-carried g c shown older own synced carries).on)
