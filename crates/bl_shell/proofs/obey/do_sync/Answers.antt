use Rattle.std.proofs.Common.{◌++◌, ℕ, List, ap, refl, sym, subst}
use Rattle.std.proofs.lemmas.Result.{err_from_is_err_and}
use Rattle.bl_site.proofs.Moments.{widened}
use Rattle.bl_script.specs.Printing.{ok_line}
use Rattle.bl_script.specs.declared.command.Command.TheVariants.{Sync}
use Rattle.bl_script.specs.declared.command.Parsed.TheVariants.{Go}
use Rattle.bl_shell.specs.Carried.{TellsFront}
use Rattle.bl_shell.proofs.CutLemmas.{cut_quiet, leaves_first, least_within}
use Rattle.bl_shell.proofs.MomentLemmas.{replied}
use Rattle.bl_shell.proofs.StayLemmas.{synced_line, stays_synced}
use Rattle.bl_shell.proofs.TellLemmas.{tell_broke, tells_nothing, each_err}
use Rattle.bl_shell.proofs.TopLemmas.{stop_not_tell}
use Rattle.bl_logstore.proofs.OtherLemmas.{log_alone, others_same, others_then}
use Rattle.bl_shell.proofs.obey.do_sync.Goals as goal

pub returns-in_err-sync-clause-front : goal.returns-in_err-sync-clause-front
returns-in_err-sync-clause-front g c = λ shown. each_err c.from_residual.result _ (λ e silent. tells_nothing ok_line _ _ (c.sync.ensures.tells_nothing.told shown))

pub returns-in_err-tell-clause-front : goal.returns-in_err-tell-clause-front
returns-in_err-tell-clause-front g c = λ shown.
    let P : List ℕ → Type 0 = λ t. TellsFront ok_line t (g.S.Site.told c.tell.new.self) in
    each_err c.from_residual-in_err-tell.result _ (λ e silent. subst P (c.sync.ensures.tells_nothing.told shown)
    (tell_broke c.in_err-tell.field-0.0 _ _ _ ok_line _ _ refl c.in_err-tell.ensures.cause (c.in_err-tell.ensures.failed shown) (c.in_err-tell.ensures.memory shown)))

pub returns-clause-ok : goal.returns-clause-ok
returns-clause-ok g c = λ shown.
    synced_line c.args.store.now c.sync.new.self _ _ _ _ _ _ c.in_ok-sync.ensures.same (c.in_ok-sync.ensures.synced shown) (c.in_ok-sync.ensures.carried shown)
    (c.in_ok-tell.ensures.stays shown).same (c.sync.ensures.tells_nothing.told shown) (c.in_ok-tell.ensures.done shown) (c.requires.there shown)

pub returns-in_err-sync-clause-cuts : goal.returns-in_err-sync-clause-cuts
returns-in_err-sync-clause-cuts g c = λ shown certain batches least s.
    widened g.S.Site.clock g.S.Site.left_since _ _ _ _ (λ cut l. cut_quiet (Go Sync) c.args.store.now batches least _ cut l.told_is l.whole (leaves_first s.older s.own batches s.synced least _ cut s.all s.at_least l))
    (c.sync.ensures.cuts shown certain s.older s.own s.synced s.carries)

pub returns-in_err-tell-clause-cuts : goal.returns-in_err-tell-clause-cuts
returns-in_err-tell-clause-cuts g c = λ shown certain batches least s.
    let mid = c.sync.new.site in
    replied g.S.Site.clock g.S.Site.left_since g.S.Site.disk g.S.Site.told g.S.Site.may_be c.cuts_stand.ensures (Go Sync) c.args.store.now c.sync.new.self batches least _ _ mid _
    (widened g.S.Site.clock g.S.Site.left_since _ _ _ _ (λ cut l. cut_quiet (Go Sync) c.args.store.now batches least _ cut l.told_is l.whole (leaves_first s.older s.own batches s.synced least _ cut s.all s.at_least l))
    (c.sync.ensures.cuts shown certain s.older s.own s.synced s.carries))
    (c.tell.ensures.time shown) (λ other. g.met.S.Site.only shown mid other (c.sync.ensures.certain shown certain)) refl (c.sync.ensures.tells_nothing.told shown) (least_within c.args.store.now batches least _ s)
    (stays_synced c.args.store.now c.sync.new.self _ _ _ batches least c.in_ok-sync.ensures.same (c.in_ok-sync.ensures.carried shown) refl s)

pub returns-clause-certain : goal.returns-clause-certain
returns-clause-certain g c = λ shown certain. (c.tell.ensures.stays shown).certain_stays (c.sync.ensures.certain shown certain)

pub returns-clause-cuts : goal.returns-clause-cuts
returns-clause-cuts g c = λ shown certain batches least s.
    let mid = c.sync.new.site in
    replied g.S.Site.clock g.S.Site.left_since g.S.Site.disk g.S.Site.told g.S.Site.may_be c.cuts_stand.ensures (Go Sync) c.args.store.now c.sync.new.self batches least _ _ mid _
    (widened g.S.Site.clock g.S.Site.left_since _ _ _ _ (λ cut l. cut_quiet (Go Sync) c.args.store.now batches least _ cut l.told_is l.whole (leaves_first s.older s.own batches s.synced least _ cut s.all s.at_least l))
    (c.sync.ensures.cuts shown certain s.older s.own s.synced s.carries))
    (c.tell.ensures.time shown) (λ other. g.met.S.Site.only shown mid other (c.sync.ensures.certain shown certain)) refl (c.sync.ensures.tells_nothing.told shown) (least_within c.args.store.now batches least _ s)
    (stays_synced c.args.store.now c.sync.new.self _ _ _ batches least c.in_ok-sync.ensures.same (c.in_ok-sync.ensures.carried shown) refl s)

pub returns-in_err-sync-clause-others : goal.returns-in_err-sync-clause-others
returns-in_err-sync-clause-others g c = λ shown. log_alone c.args.store.now.log.number _ _ (c.requires.there shown).1.1.carries.on.is_number (c.sync.ensures.others shown)

pub returns-in_err-tell-clause-others : goal.returns-in_err-tell-clause-others
returns-in_err-tell-clause-others g c = λ shown.
    others_then _ _ _ (log_alone c.args.store.now.log.number _ _ (c.requires.there shown).1.1.carries.on.is_number (c.sync.ensures.others shown)) (others_same _ _ (c.tell.ensures.stays shown).same)

pub returns-clause-others : goal.returns-clause-others
returns-clause-others g c = λ shown.
    others_then _ _ _ (log_alone c.args.store.now.log.number _ _ (c.requires.there shown).1.1.carries.on.is_number (c.sync.ensures.others shown)) (others_same _ _ (c.tell.ensures.stays shown).same)

pub returns-in_err-sync-clause-obeyed : goal.returns-in_err-sync-clause-obeyed
returns-in_err-sync-clause-obeyed g c = λ shown is.
    let p = err_from_is_err_and c.from_residual.result c.from_residual.ensures.1 in
    absurd (stop_not_tell c.in_err-sync.field-0.0 (cc (is, p.1, p.2)))

pub returns-in_err-tell-clause-obeyed : goal.returns-in_err-tell-clause-obeyed
returns-in_err-tell-clause-obeyed g c = λ shown is.
    synced_line c.args.store.now c.sync.new.self _ _ _ _ _ _ c.in_ok-sync.ensures.same (c.in_ok-sync.ensures.synced shown) (c.in_ok-sync.ensures.carried shown)
    (c.tell.ensures.stays shown).same (c.sync.ensures.tells_nothing.told shown) (ap (λ t. t ++ ok_line) (sym (c.sync.ensures.tells_nothing.told shown))) (c.requires.there shown)
