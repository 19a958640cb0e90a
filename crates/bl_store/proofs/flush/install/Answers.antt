use Rattle.std.proofs.Common.{◌≡◌, ◌∙◌, false, ap, Result, Ok, Err, OnErr, inl, inr}
use Rattle.bl_manifest.specs.ManifestFile.{ManifestFile, record_bytes}
use Rattle.bl_store.proofs.InstallLemmas.{install_as_synced, install_settled, install_step, read_back, stands_still, steady_start}
use Rattle.bl_store.proofs.flush.install.Goals as goal

pub returns-in_err-next-clause-cuts : goal.returns-in_err-next-clause-cuts
returns-in_err-next-clause-cuts g c = λ shown sure maps s h before below t is i.
    let old = c.args.site.now in
    steady_start g.S.Site c.steady_disks_are_left.ensures.cuts maps s old (g.met.S.Site.only_now shown old) (λ other. g.met.S.Site.only shown old other sure) t

pub returns-in_err-next-clause-settled : goal.returns-in_err-next-clause-settled
returns-in_err-next-clause-settled g c = λ shown maps s h before below t is i chance.
    c.steady_disks_stand.ensures.settled maps s (g.S.Site.disk c.args.site.now) t (ap (λ (m : ManifestFile). m.failed) is ∙ c.requires.usable)

pub returns-in_err-append-clause-cuts : goal.returns-in_err-append-clause-cuts
returns-in_err-append-clause-cuts g c = λ shown sure maps s h before below t is i.
    let e = c.append.ensures in
    let old = c.args.site.now in
    let cuts = c.steady_disks_are_left.ensures.cuts in
    let now = g.met.S.Site.only_now shown old in
    elim (read_back c.append.result c.append.new.self.failed e.reads e.reads_asked e.fails.stays) [
      | inl back ↦ install_step g.S.Site cuts maps s old now (λ other. g.met.S.Site.only shown old other sure) t c.installations_keep_disks_steady.ensures.cuts c.args.edit.now h before below c.args.manifest.now c.append.new.site is c.requires.usable back i (e.touches.time shown sure)
      | inr still ↦ stands_still g.S.Site cuts maps s old now (λ other. g.met.S.Site.only shown old other sure) t c.append.new.site still.1
    ]

pub returns-clause-cuts : goal.returns-clause-cuts
returns-clause-cuts g c = λ shown sure maps s h before below t is i.
    let e = c.append.ensures in
    let old = c.args.site.now in
    let cuts = c.steady_disks_are_left.ensures.cuts in
    let now = g.met.S.Site.only_now shown old in
    elim (read_back c.append.result c.append.new.self.failed e.reads e.reads_asked e.fails.stays) [
      | inl back ↦ install_step g.S.Site cuts maps s old now (λ other. g.met.S.Site.only shown old other sure) t c.installations_keep_disks_steady.ensures.cuts c.args.edit.now h before below c.args.manifest.now c.append.new.site is c.requires.usable back i (e.touches.time shown sure)
      | inr still ↦ stands_still g.S.Site cuts maps s old now (λ other. g.met.S.Site.only shown old other sure) t c.append.new.site still.1
    ]

pub returns-in_err-append-clause-settled : goal.returns-in_err-append-clause-settled
returns-in_err-append-clause-settled g c = λ shown maps s h before below t is i chance.
    let e = c.append.ensures in
    install_settled c.steady_disks_stand.ensures.settled c.installations_keep_disks_steady.ensures.settled c.installations_keep_disks_steady.ensures.keeps maps s c.args.edit.now h before below c.args.manifest.now c.append.new.self
    (g.S.Site.disk c.args.site.now) (g.S.Site.disk c.append.new.site) c.append.result t is c.requires.usable i e.number (e.appended shown) (e.holds shown) e.moved (e.torn shown) (e.memory shown) e.fails.disk_fails e.reads_asked
    (same_disk c.append.result e.fails.stays) e.errors (g.met.S.Site.remnant shown c.append.new.site) chance
  where
    same_disk : {F : Type 0} (r : Result (Unit {0}) F) → OnErr r (c.append.new.self.failed ≡ false → (c.append.new.self ≡ c.args.manifest.now) × (c.append.new.site ≡ c.args.site.now))
        → OnErr r (c.append.new.self.failed ≡ false → g.S.Site.disk c.append.new.site ≡ g.S.Site.disk c.args.site.now)
    same_disk (Ok x) h = tt
    same_disk (Err f) h = λ is_false. ap (λ d. g.S.Site.disk d) (h is_false).1

pub returns-clause-settled : goal.returns-clause-settled
returns-clause-settled g c = λ shown maps s h before below t is i chance.
    let e = c.append.ensures in
    install_settled c.steady_disks_stand.ensures.settled c.installations_keep_disks_steady.ensures.settled c.installations_keep_disks_steady.ensures.keeps maps s c.args.edit.now h before below c.args.manifest.now c.append.new.self
    (g.S.Site.disk c.args.site.now) (g.S.Site.disk c.append.new.site) c.append.result t is c.requires.usable i e.number (e.appended shown) (e.holds shown) e.moved (e.torn shown) (e.memory shown) e.fails.disk_fails e.reads_asked
    (same_disk c.append.result e.fails.stays) e.errors (g.met.S.Site.remnant shown c.append.new.site) chance
  where
    same_disk : {F : Type 0} (r : Result (Unit {0}) F) → OnErr r (c.append.new.self.failed ≡ false → (c.append.new.self ≡ c.args.manifest.now) × (c.append.new.site ≡ c.args.site.now))
        → OnErr r (c.append.new.self.failed ≡ false → g.S.Site.disk c.append.new.site ≡ g.S.Site.disk c.args.site.now)
    same_disk (Ok x) h = tt
    same_disk (Err f) h = λ is_false. ap (λ d. g.S.Site.disk d) (h is_false).1

pub returns-clause-steady : goal.returns-clause-steady
returns-clause-steady g c = λ shown names from maps s h before below found number t is i.
    let e = c.in_ok-append.ensures in
    install_as_synced c.names_one.ensures c.installations_keep_disks_steady.ensures.keeps names from found maps s c.args.edit.now h before below c.args.manifest.now c.append.new.self (g.S.Site.disk c.args.site.now) (g.S.Site.disk c.append.new.site)
    (record_bytes c.args.manifest.now.place c.args.edit.now) number t is i e.number (e.appended shown) (e.holds shown)
