use Rattle.std.proofs.Common.{◌≡◌, ◌∙◌, [], ap, refl, sym, subst, Err}
use Rattle.bl_site.specs.Disk.{folder_of}
use Rattle.bl_open.specs.Beginning.{IsInPlace, IsOpened}
use Rattle.bl_open.specs.Recovering.{TakesOver}
use Rattle.bl_open.specs.Synced.{AreFilesBelow, as_synced}
use Rattle.bl_open.specs.declared.begin.Opened.{Opened}
use Rattle.bl_open.specs.declared.error.OpenErr.TheVariants as opening
use Rattle.bl_store.specs.declared.error.StoreErr.TheVariants as store
use Rattle.bl_store.specs.Held.{begun_with, maps_of}
use Rattle.bl_store.proofs.OpeningLemmas.{answers_err, answers_ok, opened_stands, opened_there, same_answer, same_err}
use Rattle.bl_store.proofs.store.Store.open_site.Goals as goal

pub returns-in-Ok-clause-takes : goal.returns-in-Ok-clause-takes
returns-in-Ok-clause-takes g c = λ shown.
    subst (λ (o : Opened). TakesOver (folder_of (g.S.Site.disk c.args.site.now)) c.args.asked.now o) (sym c.begin.ensures.opened) (c.in-Ok.ensures.takes shown)

pub returns-in-Ok-clause-there : goal.returns-in-Ok-clause-there
returns-in-Ok-clause-there g c = λ shown.
    let disk = g.S.Site.disk c.recover.new.site in
    opened_there c.begin.result disk (subst (λ (o : Opened). IsInPlace o disk) (sym c.begin.ensures.opened) (c.in-Ok.ensures.in_place shown))

pub returns-in-Ok-clause-stands : goal.returns-in-Ok-clause-stands
returns-in-Ok-clause-stands g c = λ shown settled m stands.
    let disk = g.S.Site.disk c.recover.new.site in
    opened_stands [] m c.begin.result disk c.begin.ensures.begun
    (subst (λ (o : Opened). IsInPlace o disk) (sym c.begin.ensures.opened) (c.in-Ok.ensures.in_place shown))
    (subst (λ (o : Opened). IsOpened (maps_of (begun_with m)) o disk) (sym c.begin.ensures.opened) (c.in-Ok.ensures.opened shown settled m stands (maps_of (begun_with m)) refl))
    c.logs_are_read.ensures c.batches_join.ensures.counted c.batches_are_held.ensures.none tt

pub returns-in-Ok-clause-begins : goal.returns-in-Ok-clause-begins
returns-in-Ok-clause-begins g c = λ shown m stands.
    let disk = g.S.Site.disk c.recover.new.site in
    let o = c.in-Ok.ensures.begins shown m stands (maps_of (begun_with m)) refl in (
      o.names,
      opened_stands o.names m c.begin.result disk c.begin.ensures.begun
          (subst (λ (o : Opened). IsInPlace o disk) (sym c.begin.ensures.opened) (c.in-Ok.ensures.in_place shown))
          (subst (λ (p : Opened). IsOpened (maps_of (begun_with m)) p (as_synced o.names disk)) (sym c.begin.ensures.opened) o.opened)
          c.logs_are_read.ensures c.batches_join.ensures.counted c.batches_are_held.ensures.none
          (subst (λ (p : Opened). AreFilesBelow p.manifest.number o.names) (sym c.begin.ensures.opened) o.before),
    )

pub returns-in-Ok-clause-keeps : goal.returns-in-Ok-clause-keeps
returns-in-Ok-clause-keeps g c = λ shown. let k = c.in-Ok.ensures.keeps shown in record { files = k.files; reads = k.reads }

pub returns-in-Ok-clause-answers : goal.returns-in-Ok-clause-answers
returns-in-Ok-clause-answers g c = λ shown. answers_ok (folder_of (g.S.Site.disk c.args.site.now)) c.args.asked.now c.in-Ok.opened c.begin.result (c.in-Ok.ensures.answers shown)

pub returns-in-Err-clause-keeps : goal.returns-in-Err-clause-keeps
returns-in-Err-clause-keeps g c = λ shown. let k = c.in-Err.ensures.keeps shown in record { files = k.files; reads = tt }

pub returns-in-Err-clause-answers : goal.returns-in-Err-clause-answers
returns-in-Err-clause-answers g c = λ shown. answers_err (folder_of (g.S.Site.disk c.args.site.now)) c.args.asked.now c.in-Err.error c.into.result c.into.ensures (c.in-Err.ensures.answers shown)

pub returns-in-Err-clause-same : goal.returns-in-Err-clause-same
returns-in-Err-clause-same g c = λ shown. same_err c.in-Err.error c.into.result c.into.ensures (c.in-Err.ensures.same shown)

pub returns-in-Err-clause-full : goal.returns-in-Err-clause-full
returns-in-Err-clause-full g c = λ n is.
    let told : c.into.result ≡ store.Full n = cc is in
    c.in-Err.ensures.full n (ap Err (same_answer c.in-Err.error (opening.Full n) (sym c.into.ensures ∙ told)))
