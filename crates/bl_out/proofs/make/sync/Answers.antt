use Rattle.std.proofs.Common.{[], ◌∷◌}
use Rattle.bl_site.proofs.Images.{sync_outcome}
use Rattle.bl_out.proofs.QuietLemmas.{sync_stays, touches_once}
use Rattle.bl_out.proofs.make.sync.Goals as goal

pub returns-in_err-sync-clause-touches : goal.returns-in_err-sync-clause-touches
returns-in_err-sync-clause-touches g c =
    let s = g.S.Site in
    let name = c.args.name.now in
    let old = c.args.site.now in
    let new = c.sync.new.self in
    touches_once s name [] old new
    (λ shown. sync_stays name (s.disk old) (s.disk new) (sync_outcome name (s.disk old) (s.disk new) c.sync.result (c.sync.ensures.done shown) (c.sync.ensures.failed shown) (λ e. (c.sync.ensures.memory shown e).same) c.sync.ensures.cause.not_tell))
    c.sync.ensures.certain c.sync.ensures.told c.sync.ensures.time
    (λ shown. g.met.S.Site.only shown old) (λ shown. g.met.S.Site.only shown new) (λ shown. g.met.S.Site.only_now shown old)

pub returns-clause-touches : goal.returns-clause-touches
returns-clause-touches g c =
    let s = g.S.Site in
    let name = c.args.name.now in
    let old = c.args.site.now in
    let new = c.sync.new.self in
    touches_once s name [] old new
    (λ shown. sync_stays name (s.disk old) (s.disk new) (sync_outcome name (s.disk old) (s.disk new) c.sync.result (c.sync.ensures.done shown) (c.sync.ensures.failed shown) (λ e. (c.sync.ensures.memory shown e).same) c.sync.ensures.cause.not_tell))
    c.sync.ensures.certain c.sync.ensures.told c.sync.ensures.time
    (λ shown. g.met.S.Site.only shown old) (λ shown. g.met.S.Site.only shown new) (λ shown. g.met.S.Site.only_now shown old)
