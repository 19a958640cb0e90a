use Rattle.bl_open.proofs.MomentLemmas.{made_before}
use Rattle.bl_open.proofs.TouchLemmas.{create_touches}
use Rattle.bl_open.proofs.files.make_file.Goals as goal

pub returns-in_err-create-clause-before : goal.returns-in_err-create-clause-before
returns-in_err-create-clause-before g c = λ shown.
    let old = c.args.site.now in
    made_before g.S.Site c.args.name.now old c.create.new.self (g.met.S.Site.only_now shown old) (c.create.ensures.time shown)

pub returns-in_err-create-clause-touches : goal.returns-in_err-create-clause-touches
returns-in_err-create-clause-touches g c =
    let laws = g.met.S.Site in
    let old = c.args.site.now in
    let e = c.create.ensures in
    create_touches g.S.Site c.args.name.now old c.create.new.self c.create.result e.memory e.cause.not_tell (λ shown. laws.only shown old) (λ shown. laws.only_now shown old) e.done e.failed e.time

pub returns-clause-before : goal.returns-clause-before
returns-clause-before g c = λ shown.
    let old = c.args.site.now in
    made_before g.S.Site c.args.name.now old c.create.new.self (g.met.S.Site.only_now shown old) (c.create.ensures.time shown)

pub returns-clause-touches : goal.returns-clause-touches
returns-clause-touches g c =
    let laws = g.met.S.Site in
    let old = c.args.site.now in
    let e = c.create.ensures in
    create_touches g.S.Site c.args.name.now old c.create.new.self c.create.result e.memory e.cause.not_tell (λ shown. laws.only shown old) (λ shown. laws.only_now shown old) e.done e.failed e.time
