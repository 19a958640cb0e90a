use Rattle.std.proofs.Common.{[], ◌∷◌, inr}
use Rattle.bl_site.specs.Calls.{Creates}
use Rattle.bl_out.proofs.QuietLemmas.{create_outcome, create_stays, touches_named}
use Rattle.bl_out.proofs.make.create.Goals as goal

pub returns-in_err-create-clause-touches : goal.returns-in_err-create-clause-touches
returns-in_err-create-clause-touches g c =
    let s = g.S.Site in
    let name = c.args.name.now in
    let old = c.args.site.now in
    let new = c.create.new.self in
    touches_named s (Creates name) name [] old new
    (λ shown. create_stays name (s.disk old) (s.disk new) (create_outcome name (s.disk old) (s.disk new) c.create.result (c.create.ensures.done shown) (c.create.ensures.failed shown) (λ e. (c.create.ensures.memory shown e).same) c.create.ensures.cause.not_tell))
    (λ from to made. create_stays name from to (inr made)) c.create.ensures.time
    (λ shown. g.met.S.Site.only shown old) (λ shown. g.met.S.Site.only_now shown old)

pub returns-clause-touches : goal.returns-clause-touches
returns-clause-touches g c =
    let s = g.S.Site in
    let name = c.args.name.now in
    let old = c.args.site.now in
    let new = c.create.new.self in
    touches_named s (Creates name) name [] old new
    (λ shown. create_stays name (s.disk old) (s.disk new) (create_outcome name (s.disk old) (s.disk new) c.create.result (c.create.ensures.done shown) (c.create.ensures.failed shown) (λ e. (c.create.ensures.memory shown e).same) c.create.ensures.cause.not_tell))
    (λ from to made. create_stays name from to (inr made)) c.create.ensures.time
    (λ shown. g.met.S.Site.only shown old) (λ shown. g.met.S.Site.only_now shown old)
