use Rattle.bl_open.proofs.NamingLemmas.{renamed}
use Rattle.bl_open.proofs.OutcomeLemmas.{renamed_either}
use Rattle.bl_open.proofs.TouchLemmas.{rename_touches}
use Rattle.bl_open.proofs.current.rename_current.Goals as goal

pub returns-in_err-rename-clause-either : goal.returns-in_err-rename-clause-either
returns-in_err-rename-clause-either g c = λ shown.
    let e = c.rename.ensures in
    renamed_either c.args.from.now c.args.to.now (g.S.Site.disk c.args.site.now) (g.S.Site.disk c.rename.new.self) c.rename.result (e.done shown) (e.failed shown) (λ m. (e.memory shown m).same) e.cause.not_tell

pub returns-in_err-rename-clause-touches : goal.returns-in_err-rename-clause-touches
returns-in_err-rename-clause-touches g c =
    let laws = g.met.S.Site in
    let old = c.args.site.now in
    let e = c.rename.ensures in
    rename_touches g.S.Site c.args.from.now old c.rename.new.self c.rename.result e.memory e.cause.not_tell (λ shown. laws.only shown old) (λ shown. laws.only_now shown old) c.args.to.now e.done e.failed e.time

pub returns-in_err-rename-clause-cuts : goal.returns-in_err-rename-clause-cuts
returns-in_err-rename-clause-cuts g c = λ shown sure maps s found r ready text all.
    let laws = g.met.S.Site in
    let old = c.args.site.now in
    renamed g.S.Site c.barriers_let_disks_rest.ensures.cuts c.renames_make_disks_steady.ensures.after c.steady_disks_are_left.ensures.synced maps s found c.args.temp c.args.from.now c.args.to.now
    old c.rename.new.self c.requires.number c.requires.from_named c.requires.to_named r ready text all (laws.only_now shown old) (λ other. laws.only shown old other sure) (c.rename.ensures.time shown)

pub returns-clause-either : goal.returns-clause-either
returns-clause-either g c = λ shown.
    let e = c.rename.ensures in
    renamed_either c.args.from.now c.args.to.now (g.S.Site.disk c.args.site.now) (g.S.Site.disk c.rename.new.self) c.rename.result (e.done shown) (e.failed shown) (λ m. (e.memory shown m).same) e.cause.not_tell

pub returns-clause-touches : goal.returns-clause-touches
returns-clause-touches g c =
    let laws = g.met.S.Site in
    let old = c.args.site.now in
    let e = c.rename.ensures in
    rename_touches g.S.Site c.args.from.now old c.rename.new.self c.rename.result e.memory e.cause.not_tell (λ shown. laws.only shown old) (λ shown. laws.only_now shown old) c.args.to.now e.done e.failed e.time

pub returns-clause-cuts : goal.returns-clause-cuts
returns-clause-cuts g c = λ shown sure maps s found r ready text all.
    let laws = g.met.S.Site in
    let old = c.args.site.now in
    renamed g.S.Site c.barriers_let_disks_rest.ensures.cuts c.renames_make_disks_steady.ensures.after c.steady_disks_are_left.ensures.synced maps s found c.args.temp c.args.from.now c.args.to.now
    old c.rename.new.self c.requires.number c.requires.from_named c.requires.to_named r ready text all (laws.only_now shown old) (λ other. laws.only shown old other sure) (c.rename.ensures.time shown)
