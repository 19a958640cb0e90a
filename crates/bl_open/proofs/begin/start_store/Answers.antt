use Rattle.std.proofs.Common.{[], ◌∙◌}
use Rattle.bl_wal.specs.LogFile.{log_name}
use Rattle.bl_open.specs.Found.{IsLeftAs}
use Rattle.bl_open.proofs.StartLemmas.{log_may, side_before, then_side, then_stands}
use Rattle.bl_open.proofs.begin.start_store.Goals as goal

pub returns-in_err-wal-clause-sides : goal.returns-in_err-wal-clause-sides
returns-in_err-wal-clause-sides g c = λ shown found maps h rests spare t live.
    side_before g.S.Site (log_name c.args.log) (IsLeftAs found (maps 0)) c.args.site.now c.make_log.new.site (c.make_log.ensures.before shown)

pub returns-in_err-wal-clause-cuts : goal.returns-in_err-wal-clause-cuts
returns-in_err-wal-clause-cuts g c = λ shown sure found maps h rests spare t live.
    c.make_log.ensures.cuts shown sure found (maps 0) (log_may found maps c.args.log h (g.S.Site.disk c.args.site.now) c.requires.log t) rests

pub returns-in_err-wal-clause-settled : goal.returns-in_err-wal-clause-settled
returns-in_err-wal-clause-settled g c = λ shown found maps h rests spare t live.
    let laws = c.barriers_let_disks_rest.ensures in
    let new = g.S.Site.disk c.make_log.new.site in
    laws.stay_settled (maps 0) new (laws.rests found (maps 0) new (c.make_log.ensures.rests shown found (maps 0) (log_may found maps c.args.log h (g.S.Site.disk c.args.site.now) c.requires.log t) rests))

pub returns-in_err-made-clause-sides : goal.returns-in_err-made-clause-sides
returns-in_err-made-clause-sides g c = λ shown found maps h rests spare t live.
    let first = c.make_log.ensures in
    let disk = g.S.Site.disk c.args.site.now in
    let may = log_may found maps c.args.log h disk c.requires.log t in
    then_side g.S.Site (log_name c.args.log) (IsLeftAs found (maps 0)) c.args.site.now c.make_log.new.site c.install_store.new.site (first.tells_nothing.told shown)
    (side_before g.S.Site (log_name c.args.log) (IsLeftAs found (maps 0)) c.args.site.now c.make_log.new.site (first.before shown))
    (c.install_store.ensures.cuts shown (c.in_ok-wal.ensures.certain shown) found maps c.args.log h live (c.in_ok-wal.ensures.begins shown [] 0 tt maps h t) (first.rests shown found (maps 0) may rests) spare)

pub returns-in_err-made-clause-cuts : goal.returns-in_err-made-clause-cuts
returns-in_err-made-clause-cuts g c = λ shown sure found maps h rests spare t live.
    let first = c.make_log.ensures in
    let disk = g.S.Site.disk c.args.site.now in
    let may = log_may found maps c.args.log h disk c.requires.log t in
    then_stands g.S.Site (log_name c.args.log) (IsLeftAs found (maps 0)) c.args.site.now c.make_log.new.site c.install_store.new.site (first.tells_nothing.told shown)
    (first.cuts shown sure found (maps 0) may rests)
    (c.install_store.ensures.cuts shown (c.in_ok-wal.ensures.certain shown) found maps c.args.log h live (c.in_ok-wal.ensures.begins shown [] 0 tt maps h t) (first.rests shown found (maps 0) may rests) spare)

pub returns-in_err-made-clause-settled : goal.returns-in_err-made-clause-settled
returns-in_err-made-clause-settled g c = λ shown found maps h rests spare t live.
    let may = log_may found maps c.args.log h (g.S.Site.disk c.args.site.now) c.requires.log t in
    c.install_store.ensures.settled shown found maps c.args.log h live (c.in_ok-wal.ensures.begins shown [] 0 tt maps h t) (c.make_log.ensures.rests shown found (maps 0) may rests) spare

pub returns-clause-sides : goal.returns-clause-sides
returns-clause-sides g c = λ shown found maps h rests spare t live.
    let first = c.make_log.ensures in
    let may = log_may found maps c.args.log h (g.S.Site.disk c.args.site.now) c.requires.log t in
    then_side g.S.Site (log_name c.args.log) (IsLeftAs found (maps 0)) c.args.site.now c.make_log.new.site c.install_store.new.site (first.tells_nothing.told shown)
    (side_before g.S.Site (log_name c.args.log) (IsLeftAs found (maps 0)) c.args.site.now c.make_log.new.site (first.before shown))
    (c.install_store.ensures.cuts shown (c.in_ok-wal.ensures.certain shown) found maps c.args.log h live (c.in_ok-wal.ensures.begins shown [] 0 tt maps h t) (first.rests shown found (maps 0) may rests) spare)

pub returns-clause-cuts : goal.returns-clause-cuts
returns-clause-cuts g c = λ shown sure found maps h rests spare t live.
    let first = c.make_log.ensures in
    let may = log_may found maps c.args.log h (g.S.Site.disk c.args.site.now) c.requires.log t in
    then_stands g.S.Site (log_name c.args.log) (IsLeftAs found (maps 0)) c.args.site.now c.make_log.new.site c.install_store.new.site (first.tells_nothing.told shown)
    (first.cuts shown sure found (maps 0) may rests)
    (c.install_store.ensures.cuts shown (c.in_ok-wal.ensures.certain shown) found maps c.args.log h live (c.in_ok-wal.ensures.begins shown [] 0 tt maps h t) (first.rests shown found (maps 0) may rests) spare)

pub returns-clause-settled : goal.returns-clause-settled
returns-clause-settled g c = λ shown found maps h rests spare t live.
    let may = log_may found maps c.args.log h (g.S.Site.disk c.args.site.now) c.requires.log t in
    c.install_store.ensures.settled shown found maps c.args.log h live (c.in_ok-wal.ensures.begins shown [] 0 tt maps h t) (c.make_log.ensures.rests shown found (maps 0) may rests) spare

pub returns-clause-steady : goal.returns-clause-steady
returns-clause-steady g c = λ shown names from below maps h t live. c.in_ok-made.ensures.steady shown names from below maps c.args.log h live (c.in_ok-wal.ensures.begins shown names from below maps h t)

pub returns-in_err-wal-clause-others : goal.returns-in_err-wal-clause-others
returns-in_err-wal-clause-others g c = λ shown name none. c.make_log.ensures.touches.others shown name (none.0, tt)

pub returns-in_err-made-clause-others : goal.returns-in_err-made-clause-others
returns-in_err-made-clause-others g c = λ shown name none. c.install_store.ensures.touches.others shown name none.1 ∙ c.make_log.ensures.touches.others shown name (none.0, tt)

pub returns-clause-others : goal.returns-clause-others
returns-clause-others g c = λ shown name none. c.install_store.ensures.touches.others shown name none.1 ∙ c.make_log.ensures.touches.others shown name (none.0, tt)
