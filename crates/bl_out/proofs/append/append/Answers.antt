use Rattle.std.proofs.Common.{[], ◌∷◌}
use Rattle.bl_site.proofs.Images.{append_outcome}
use Rattle.bl_out.proofs.QuietLemmas.{append_stays, touches_once}
use Rattle.bl_out.proofs.append.append.Goals as goal

pub returns-in_err-append-clause-touches : goal.returns-in_err-append-clause-touches
returns-in_err-append-clause-touches g c =
    let s = g.S.Site in
    let name = c.args.name.now in
    let old = c.args.site.now in
    let new = c.append.new.self in
    touches_once s name [] old new
    (λ shown. append_stays name c.args.bytes.now (s.disk old) (s.disk new) (append_outcome name c.args.bytes.now (s.disk old) (s.disk new) c.append.result (c.append.ensures.done shown) (c.append.ensures.failed shown) (λ e. (c.append.ensures.memory shown e).same) c.append.ensures.cause.not_tell))
    c.append.ensures.certain c.append.ensures.told c.append.ensures.time
    (λ shown. g.met.S.Site.only shown old) (λ shown. g.met.S.Site.only shown new) (λ shown. g.met.S.Site.only_now shown old)

pub returns-clause-touches : goal.returns-clause-touches
returns-clause-touches g c =
    let s = g.S.Site in
    let name = c.args.name.now in
    let old = c.args.site.now in
    let new = c.append.new.self in
    touches_once s name [] old new
    (λ shown. append_stays name c.args.bytes.now (s.disk old) (s.disk new) (append_outcome name c.args.bytes.now (s.disk old) (s.disk new) c.append.result (c.append.ensures.done shown) (c.append.ensures.failed shown) (λ e. (c.append.ensures.memory shown e).same) c.append.ensures.cause.not_tell))
    c.append.ensures.certain c.append.ensures.told c.append.ensures.time
    (λ shown. g.met.S.Site.only shown old) (λ shown. g.met.S.Site.only shown new) (λ shown. g.met.S.Site.only_now shown old)
