use Rattle.std.proofs.Common.{◌≡◌, ℕ, ◌+◌, List, length, ◌++◌, cond, ap, refl, sym, subst, inl, inr}
use Rattle.std.proofs.lemmas.Result.{err_from_is_err_and}
use Rattle.bl_site.specs.Calls.{LeavesOnly}
use Rattle.bl_site.specs.Disk.{folder_of}
use Rattle.bl_site.proofs.Moments.{widened}
use Rattle.bl_script.specs.Printing.{ok_line}
use Rattle.bl_script.specs.declared.command.Parsed.TheVariants.{Nothing}
use Rattle.bl_logstore.specs.declared.error.StoreErr.TheVariants as store
use Rattle.bl_logstore.specs.Causes.{IsUntouched}
use Rattle.bl_shell.specs.Machine.{Write, numbered}
use Rattle.bl_shell.specs.Synced.{syncs}
use Rattle.bl_shell.specs.Carried.{TellsFront, IsServable, CutIn}
use Rattle.bl_code.proofs.Basics.{on_any_err}
use Rattle.bl_shell.proofs.CutLemmas.{cut_writing, least_within}
use Rattle.bl_shell.proofs.MomentLemmas.{unbegun, replied}
use Rattle.bl_shell.proofs.StayLemmas.{wrote_line, stays_wrote}
use Rattle.bl_shell.proofs.TellLemmas.{no_limit, tell_broke, tells_nothing, each_err}
use Rattle.bl_shell.proofs.TopLemmas.{stop_full, stop_not_tell}
use Rattle.bl_shell.proofs.LimitLemmas.{written_room}
use Rattle.bl_logstore.proofs.OtherLemmas.{log_alone, others_same, others_then}
use Rattle.bl_shell.proofs.obey.do_write.Goals as goal

pub returns-in_err-write-clause-front : goal.returns-in_err-write-clause-front
returns-in_err-write-clause-front g c = λ shown. each_err c.from_residual.result _ (λ e silent. tells_nothing ok_line _ _ (c.write.ensures.tells_nothing.told shown))

pub returns-in_err-write-clause-cuts : goal.returns-in_err-write-clause-cuts
returns-in_err-write-clause-cuts g c = λ shown certain order w batches least s.
    widened g.S.Site.clock g.S.Site.left_since _ _ _ _ (λ cut l. cut_writing order c.args.batch.now c.args.store.now batches least _ _ cut w s l) (c.write.ensures.cuts shown certain s.older s.own s.synced s.carries)

pub returns-in_err-write-clause-full_cuts : goal.returns-in_err-write-clause-full_cuts
returns-in_err-write-clause-full_cuts g c = λ shown certain limit is batches least s.
    let p = err_from_is_err_and c.from_residual.result c.from_residual.ensures.1 in
    let e : c.in_err-write.field-0.0 ≡ store.Full limit = stop_full c.in_err-write.field-0.0 limit (cc (is, p.1, p.2)) in
    let same = (c.in_err-write.ensures.refused (subst IsUntouched (sym e) tt)).1 in
    let site = c.args.site.now in
    let P : g.row.S.Denot → Type 0 = λ x. LeavesOnly g.S.Site.clock g.S.Site.left_since site x (CutIn Nothing c.args.store.now batches least (g.S.Site.told site)) in
    subst P (sym same) (unbegun g.S.Site.clock g.S.Site.left_since g.S.Site.disk g.S.Site.told g.S.Site.may_be c.cuts_stand.ensures Nothing c.args.store.now batches least site
    (λ other. g.met.S.Site.only shown site other certain) (λ cut. g.met.S.Site.only_now shown site cut) s)

pub returns-in_err-tell-clause-front : goal.returns-in_err-tell-clause-front
returns-in_err-tell-clause-front g c = λ shown.
    let P : List ℕ → Type 0 = λ t. TellsFront ok_line t (g.S.Site.told c.tell.new.self) in
    each_err c.from_residual-in_err-tell.result _ (λ e silent. subst P (c.write.ensures.tells_nothing.told shown)
    (tell_broke c.in_err-tell.field-0.0 _ _ _ ok_line _ _ refl c.in_err-tell.ensures.cause (c.in_err-tell.ensures.failed shown) (c.in_err-tell.ensures.memory shown)))

pub returns-in_err-tell-clause-cuts : goal.returns-in_err-tell-clause-cuts
returns-in_err-tell-clause-cuts g c = λ shown certain order w batches least s.
    let mid = c.write.new.site in
    let disk = g.S.Site.disk mid in
    let W : List Write → Type 0 = λ ws. IsServable c.write.new.self (batches ++ numbered (c.args.store.now.last + 1) ws) (cond (syncs order) (length batches) least) disk in
    replied g.S.Site.clock g.S.Site.left_since g.S.Site.disk g.S.Site.told g.S.Site.may_be c.cuts_stand.ensures order c.args.store.now c.write.new.self batches least _ _ mid _
    (widened g.S.Site.clock g.S.Site.left_since _ _ _ _ (λ cut l. cut_writing order c.args.batch.now c.args.store.now batches least _ _ cut w s l) (c.write.ensures.cuts shown certain s.older s.own s.synced s.carries))
    (c.tell.ensures.time shown) (λ other. g.met.S.Site.only shown mid other (c.write.ensures.certain shown certain)) (sym (w.tells c.args.store.now.now)) (c.write.ensures.tells_nothing.told shown)
    (least_within c.args.store.now batches least _ s)
    (subst W (sym w.writes) (stays_wrote order c.args.batch.now c.args.store.now c.write.new.self _ disk disk batches least w c.in_ok-write.ensures.written (c.in_ok-write.ensures.carried shown) refl s))

pub returns-clause-ok : goal.returns-clause-ok
returns-clause-ok g c = λ shown order w.
    wrote_line order c.args.batch.now c.args.store.now c.write.new.self _ _ _ _ _ _ w c.in_ok-write.ensures.written (c.in_ok-write.ensures.appended shown) (c.in_ok-write.ensures.carried shown)
    (c.in_ok-tell.ensures.stays shown).same (c.write.ensures.tells_nothing.told shown) (c.in_ok-tell.ensures.done shown) (c.requires.there shown)

pub returns-clause-certain : goal.returns-clause-certain
returns-clause-certain g c = λ shown certain. (c.tell.ensures.stays shown).certain_stays (c.write.ensures.certain shown certain)

pub returns-clause-cuts : goal.returns-clause-cuts
returns-clause-cuts g c = λ shown certain order w batches least s.
    let mid = c.write.new.site in
    let disk = g.S.Site.disk mid in
    let W : List Write → Type 0 = λ ws. IsServable c.write.new.self (batches ++ numbered (c.args.store.now.last + 1) ws) (cond (syncs order) (length batches) least) disk in
    replied g.S.Site.clock g.S.Site.left_since g.S.Site.disk g.S.Site.told g.S.Site.may_be c.cuts_stand.ensures order c.args.store.now c.write.new.self batches least _ _ mid _
    (widened g.S.Site.clock g.S.Site.left_since _ _ _ _ (λ cut l. cut_writing order c.args.batch.now c.args.store.now batches least _ _ cut w s l) (c.write.ensures.cuts shown certain s.older s.own s.synced s.carries))
    (c.tell.ensures.time shown) (λ other. g.met.S.Site.only shown mid other (c.write.ensures.certain shown certain)) (sym (w.tells c.args.store.now.now)) (c.write.ensures.tells_nothing.told shown)
    (least_within c.args.store.now batches least _ s)
    (subst W (sym w.writes) (stays_wrote order c.args.batch.now c.args.store.now c.write.new.self _ disk disk batches least w c.in_ok-write.ensures.written (c.in_ok-write.ensures.carried shown) refl s))

pub returns-in_err-write-clause-room : goal.returns-in_err-write-clause-room
returns-in_err-write-clause-room g c = λ shown. on_any_err c.from_residual.result _ (inl (c.write.ensures.tells_nothing.told shown))

pub returns-in_err-tell-clause-room : goal.returns-in_err-tell-clause-room
returns-in_err-tell-clause-room g c = λ shown. on_any_err c.from_residual-in_err-tell.result _ (inr (λ order w.
    let t = c.requires.there shown in
    written_room order c.args.batch.now c.args.store.now t.0 t.1.0 _ w c.in_ok-write.ensures.fits t.1.1))

pub returns-in_err-write-clause-others : goal.returns-in_err-write-clause-others
returns-in_err-write-clause-others g c = λ shown. log_alone c.args.store.now.log.number _ _ (c.requires.there shown).1.1.carries.on.is_number (c.write.ensures.others shown)

pub returns-in_err-tell-clause-others : goal.returns-in_err-tell-clause-others
returns-in_err-tell-clause-others g c = λ shown.
    others_then _ _ _ (log_alone c.args.store.now.log.number _ _ (c.requires.there shown).1.1.carries.on.is_number (c.write.ensures.others shown)) (others_same _ _ (c.tell.ensures.stays shown).same)

pub returns-clause-others : goal.returns-clause-others
returns-clause-others g c = λ shown.
    others_then _ _ _ (log_alone c.args.store.now.log.number _ _ (c.requires.there shown).1.1.carries.on.is_number (c.write.ensures.others shown)) (others_same _ _ (c.tell.ensures.stays shown).same)

pub returns-in_err-write-clause-obeyed : goal.returns-in_err-write-clause-obeyed
returns-in_err-write-clause-obeyed g c = λ shown is.
    let p = err_from_is_err_and c.from_residual.result c.from_residual.ensures.1 in
    absurd (stop_not_tell c.in_err-write.field-0.0 (cc (is, p.1, p.2)))

pub returns-in_err-tell-clause-obeyed : goal.returns-in_err-tell-clause-obeyed
returns-in_err-tell-clause-obeyed g c = λ shown is order w.
    wrote_line order c.args.batch.now c.args.store.now c.write.new.self _ _ _ _ _ _ w c.in_ok-write.ensures.written (c.in_ok-write.ensures.appended shown) (c.in_ok-write.ensures.carried shown)
    (c.tell.ensures.stays shown).same (c.write.ensures.tells_nothing.told shown) (ap (λ t. t ++ ok_line) (sym (c.write.ensures.tells_nothing.told shown))) (c.requires.there shown)

pub returns-in_err-write-clause-full_stays : goal.returns-in_err-write-clause-full_stays
returns-in_err-write-clause-full_stays g c = λ shown limit is.
    let p = err_from_is_err_and c.from_residual.result c.from_residual.ensures.1 in
    let e : c.in_err-write.field-0.0 ≡ store.Full limit = stop_full c.in_err-write.field-0.0 limit (cc (is, p.1, p.2)) in
    ap (λ x. folder_of (g.S.Site.disk x)) (c.in_err-write.ensures.refused (subst IsUntouched (sym e) tt)).1

pub returns-in_err-tell-clause-full_stays : goal.returns-in_err-tell-clause-full_stays
returns-in_err-tell-clause-full_stays g c = λ shown limit is.
    let p = err_from_is_err_and c.from_residual-in_err-tell.result c.from_residual-in_err-tell.ensures.1 in
    absurd (no_limit c.in_err-tell.field-0.0 limit (cc (is, p.1, p.2)))
