use Rattle.std.proofs.Common.{◌≡◌, ℕ, List, ap, sym, subst, Err}
use Rattle.std.proofs.lemmas.Result.{err_from_is_err_and}
use Rattle.bl_site.specs.Disk.{folder_of}
use Rattle.bl_shell.specs.declared.stop.Stop.TheVariants as stop
use Rattle.bl_shell.specs.Causes.{IsSilent}
use Rattle.bl_shell.specs.Telling.{HasRun}
use Rattle.bl_shell.proofs.TellLemmas.{each_err}
use Rattle.bl_shell.proofs.EndLemmas.{has_run, all_begun, is_kept, last_cuts}
use Rattle.bl_shell.proofs.StayLemmas.{log_is_there}
use Rattle.bl_shell.proofs.TopLemmas.{stop_not_tell}
use Rattle.bl_logstore.proofs.OtherLemmas.{log_alone, others_then}
use Rattle.bl_shell.proofs.serve.finish.Goals as goal

pub returns-in_err-end_script-clause-front : goal.returns-in_err-end_script-clause-front
returns-in_err-end_script-clause-front g c =
    let p = err_from_is_err_and c.from_residual.result c.from_residual.ensures.1 in
    rw p.1 (λ shown silent. let same : p.0 ≡ c.in_err-end_script.field-0.0 = cc p.2 in c.in_err-end_script.ensures.front shown (subst IsSilent same silent))

pub returns-in_err-end_script-clause-full : goal.returns-in_err-end_script-clause-full
returns-in_err-end_script-clause-full g c = λ shown limit is.
    let p = err_from_is_err_and c.from_residual.result c.from_residual.ensures.1 in
    let e : c.in_err-end_script.field-0.0 ≡ stop.Full limit = cc (is, p.1, p.2) in
    c.in_err-end_script.ensures.full shown limit (ap Err e)

pub returns-in_err-end_script-clause-cuts : goal.returns-in_err-end_script-clause-cuts
returns-in_err-end_script-clause-cuts g c = c.end_script.ensures.cuts

pub sync-requires : goal.sync-requires
sync-requires g c = record {
  there = λ shown.
      let t = c.requires.there shown in
      let f = c.in_ok-end_script.ensures.ok shown t.0 t.1.0 t.1.1.0 t.1.1.1.0 t.1.1.1.1.0 t.1.1.1.1.1 in
      log_is_there _ _ _ _ f.stays;
}

pub returns-in_err-sync-clause-front : goal.returns-in_err-sync-clause-front
returns-in_err-sync-clause-front g c = λ shown. each_err c.from_residual-in_err-sync.result _ (λ e silent began folder told script start begins carried.
    all_begun began folder script told _ _ _ _ _ begins (c.sync.ensures.tells_nothing.told shown) (c.in_ok-end_script.ensures.ok shown began folder told script start carried))

pub returns-in_err-sync-clause-cuts : goal.returns-in_err-sync-clause-cuts
returns-in_err-sync-clause-cuts g c = λ shown began folder told script start carried.
    let f = c.in_ok-end_script.ensures.ok shown began folder told script start carried in
    last_cuts g.S.Site.certain g.S.Site.clock g.S.Site.left_since c.batches_make_the_map.ensures began folder script told _ _ _ start c.end_script.new.site c.sync.new.site f
    (c.sync.ensures.cuts shown f.cuts.certain_now f.stays.older f.stays.own f.stays.synced f.stays.carries)

pub returns-in_err-sync-clause-others : goal.returns-in_err-sync-clause-others
returns-in_err-sync-clause-others g c = λ shown.
    let t = c.requires.there shown in
    let f = c.in_ok-end_script.ensures.ok shown t.0 t.1.0 t.1.1.0 t.1.1.1.0 t.1.1.1.1.0 t.1.1.1.1.1 in
    others_then _ _ _ (c.end_script.ensures.others shown) (log_alone c.end_script.new.store.log.number _ _ f.stays.carries.on.is_number (c.sync.ensures.others shown))

-- the whole script has run
pub returns-clause-ok : goal.returns-clause-ok
returns-clause-ok g c = λ shown began folder told script start begins carried.
    let P : List ℕ → Type 0 = λ t. HasRun folder (folder_of (g.S.Site.disk c.sync.new.site)) script told t in
    subst P (sym (c.sync.ensures.tells_nothing.told shown))
    (has_run c.stores_stand.ensures c.batches_make_the_map.ensures began folder script told _ _ _ _ _ begins (c.in_ok-sync.ensures.reads shown) (c.in_ok-end_script.ensures.ok shown began folder told script start carried))

pub returns-clause-cuts : goal.returns-clause-cuts
returns-clause-cuts g c = λ shown began folder told script start carried.
    let f = c.in_ok-end_script.ensures.ok shown began folder told script start carried in
    last_cuts g.S.Site.certain g.S.Site.clock g.S.Site.left_since c.batches_make_the_map.ensures began folder script told _ _ _ start c.end_script.new.site c.sync.new.site f
    (c.sync.ensures.cuts shown f.cuts.certain_now f.stays.older f.stays.own f.stays.synced f.stays.carries)

pub returns-clause-others : goal.returns-clause-others
returns-clause-others g c = λ shown.
    let t = c.requires.there shown in
    let f = c.in_ok-end_script.ensures.ok shown t.0 t.1.0 t.1.1.0 t.1.1.1.0 t.1.1.1.1.0 t.1.1.1.1.1 in
    others_then _ _ _ (c.end_script.ensures.others shown) (log_alone c.end_script.new.store.log.number _ _ f.stays.carries.on.is_number (c.sync.ensures.others shown))

pub returns-clause-kept : goal.returns-clause-kept
returns-clause-kept g c = λ shown began folder told script start begins carried.
    let f = c.in_ok-end_script.ensures.ok shown began folder told script start carried in
    let sure = c.sync.ensures.certain shown f.cuts.certain_now in
    let site = c.sync.new.site in
    is_kept c.synced_stores_are_left.ensures c.batches_make_the_map.ensures c.older_logs_are_synced.ensures began folder script told _ _ _ _ _ _ _ _ _ begins sure (λ other. g.met.S.Site.only shown site other sure)
    c.in_ok-sync.ensures.same (c.in_ok-sync.ensures.carried shown) f

pub returns-in_err-end_script-clause-faltered : goal.returns-in_err-end_script-clause-faltered
returns-in_err-end_script-clause-faltered g c = λ shown is.
    let p = err_from_is_err_and c.from_residual.result c.from_residual.ensures.1 in
    let e : c.in_err-end_script.field-0.0 ≡ stop.Tell = cc (is, p.1, p.2) in
    c.in_err-end_script.ensures.faltered shown (ap Err e)

pub returns-in_err-sync-clause-faltered : goal.returns-in_err-sync-clause-faltered
returns-in_err-sync-clause-faltered g c = λ shown is.
    let p = err_from_is_err_and c.from_residual-in_err-sync.result c.from_residual-in_err-sync.ensures.1 in
    absurd (stop_not_tell c.in_err-sync.field-0.0 (cc (is, p.1, p.2)))
