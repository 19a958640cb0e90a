use Rattle.std.proofs.Common.{[], inr, refl}
use Rattle.bl_site.specs.Calls.{Creates}
use Rattle.bl_names.specs.declared.name.FileName.TheVariants.{Log}
use Rattle.bl_wal.specs.LogFile.{log_name, new_log}
use Rattle.bl_out.proofs.QuietLemmas.{create_stays, touches_named}
use Rattle.bl_open.specs.Found.{IsLeftAs, RestsAs}
use Rattle.bl_open.proofs.MomentLemmas.{made_before, rest_call, rest_start}
use Rattle.bl_open.proofs.OutcomeLemmas.{files_stay_any, log_outcome}
use Rattle.bl_open.proofs.FrameLemmas.{same_held}
use Rattle.bl_open.proofs.SyncedLemmas.{creates_synced, unsynced_at}
use Rattle.bl_open.specs.Synced.{as_synced}
use Rattle.bl_open.proofs.files.make_log.Goals as goal

pub returns-in_err-wal-clause-before : goal.returns-in_err-wal-clause-before
returns-in_err-wal-clause-before g c = λ shown.
    let old = c.args.site.now in
    made_before g.S.Site (log_name c.args.number) old c.create.new.site (g.met.S.Site.only_now shown old) (c.create.ensures.time shown)

pub returns-in_err-wal-clause-touches : goal.returns-in_err-wal-clause-touches
returns-in_err-wal-clause-touches g c =
    let s = g.S.Site in
    let laws = g.met.S.Site in
    let name = log_name c.args.number in
    let old = c.args.site.now in
    let new = c.create.new.site in
    let e = c.create.ensures in
    touches_named s (Creates name) name [] old new
    (λ shown. create_stays name (s.disk old) (s.disk new) (log_outcome name (s.disk old) (s.disk new) c.create.result (e.created shown) (e.failed shown) (λ m. (e.keeps shown m).same) e.errors))
    (λ from to made. create_stays name from to (inr made)) e.time (λ shown. laws.only shown old) (λ shown. laws.only_now shown old)

pub returns-in_err-wal-clause-rests : goal.returns-in_err-wal-clause-rests
returns-in_err-wal-clause-rests g c = λ shown found m may r.
    let s = g.S.Site in
    let name = log_name c.args.number in
    let old = s.disk c.args.site.now in
    let new = s.disk c.create.new.site in
    let e = c.create.ensures in
    files_stay_any c.barriers_let_disks_rest.ensures.files found m (Log c.args.number) name old new (c.requires.number, refl) may
    (log_outcome name old new c.create.result (e.created shown) (e.failed shown) (λ x. (e.keeps shown x).same) e.errors) r

pub returns-in_err-wal-clause-cuts : goal.returns-in_err-wal-clause-cuts
returns-in_err-wal-clause-cuts g c = λ shown sure found m may r.
    let s = g.S.Site in
    let laws = c.barriers_let_disks_rest.ensures in
    let old = c.args.site.now in
    rest_call s (RestsAs found m) (IsLeftAs found m) (laws.cuts found m) (Creates (log_name c.args.number)) old old c.create.new.site
    (rest_start s (RestsAs found m) (IsLeftAs found m) (laws.cuts found m) old (g.met.S.Site.only_now shown old) (λ other. g.met.S.Site.only shown old other sure) r) refl (λ other. g.met.S.Site.only shown old other sure) r
    (λ after made. laws.files found m (Log c.args.number) (s.disk old) after c.requires.number may made r) (c.create.ensures.time shown)

pub returns-clause-before : goal.returns-clause-before
returns-clause-before g c = λ shown.
    let old = c.args.site.now in
    made_before g.S.Site (log_name c.args.number) old c.create.new.site (g.met.S.Site.only_now shown old) (c.create.ensures.time shown)

pub returns-clause-touches : goal.returns-clause-touches
returns-clause-touches g c =
    let s = g.S.Site in
    let laws = g.met.S.Site in
    let name = log_name c.args.number in
    let old = c.args.site.now in
    let new = c.create.new.site in
    let e = c.create.ensures in
    touches_named s (Creates name) name [] old new
    (λ shown. create_stays name (s.disk old) (s.disk new) (log_outcome name (s.disk old) (s.disk new) c.create.result (e.created shown) (e.failed shown) (λ m. (e.keeps shown m).same) e.errors))
    (λ from to made. create_stays name from to (inr made)) e.time (λ shown. laws.only shown old) (λ shown. laws.only_now shown old)

pub returns-clause-rests : goal.returns-clause-rests
returns-clause-rests g c = λ shown found m may r.
    let s = g.S.Site in
    let name = log_name c.args.number in
    let old = s.disk c.args.site.now in
    let new = s.disk c.create.new.site in
    let e = c.create.ensures in
    files_stay_any c.barriers_let_disks_rest.ensures.files found m (Log c.args.number) name old new (c.requires.number, refl) may
    (log_outcome name old new c.create.result (e.created shown) (e.failed shown) (λ x. (e.keeps shown x).same) e.errors) r

pub returns-clause-cuts : goal.returns-clause-cuts
returns-clause-cuts g c = λ shown sure found m may r.
    let s = g.S.Site in
    let laws = c.barriers_let_disks_rest.ensures in
    let old = c.args.site.now in
    rest_call s (RestsAs found m) (IsLeftAs found m) (laws.cuts found m) (Creates (log_name c.args.number)) old old c.create.new.site
    (rest_start s (RestsAs found m) (IsLeftAs found m) (laws.cuts found m) old (g.met.S.Site.only_now shown old) (λ other. g.met.S.Site.only shown old other sure) r) refl (λ other. g.met.S.Site.only shown old other sure) r
    (λ after made. laws.files found m (Log c.args.number) (s.disk old) after c.requires.number may made r) (c.create.ensures.time shown)

pub returns-clause-begins : goal.returns-clause-begins
returns-clause-begins g c = λ shown names from below maps h t.
    let one = c.names_one.ensures in
    let old = g.S.Site.disk c.args.site.now in
    let new = g.S.Site.disk c.create.new.site in
    c.stores_begin.ensures.logs maps c.args.number h (as_synced names old) (as_synced names new) c.requires.number t
    (creates_synced one from names old new (Log c.args.number) below c.requires.number tt (c.in_ok-wal.ensures.created shown))
    (same_held new (as_synced names new) (new_log c.args.number) [] 0 (unsynced_at one from names new (Log c.args.number) below c.requires.number tt) (c.in_ok-wal.ensures.holds shown))
