use Rattle.std.proofs.Common.{◌≡◌, ◌++◌, ℕ, List, refl, sym, subst, ap, Err, inl, inr}
use Rattle.std.proofs.lemmas.Result.{err_from_is_err_and}
use Rattle.bl_site.proofs.Moments.{widened}
use Rattle.bl_script.specs.Printing.{ok_line}
use Rattle.bl_script.specs.declared.command.Command.TheVariants.{Reopen}
use Rattle.bl_script.specs.declared.command.Parsed.TheVariants.{Nothing, Go}
use Rattle.bl_logstore.specs.declared.error.StoreErr.TheVariants as store
use Rattle.bl_logstore.specs.Causes.{IsUntouched}
use Rattle.bl_shell.specs.Carried.{TellsFront}
use Rattle.bl_code.proofs.Basics.{on_any_err}
use Rattle.bl_shell.proofs.CutLemmas.{cut_quiet, leaves_first, least_within}
use Rattle.bl_shell.proofs.MomentLemmas.{replied}
use Rattle.bl_shell.proofs.StayLemmas.{reopened_line, stays_reopened, stands, corrupt_was}
use Rattle.bl_shell.proofs.TellLemmas.{no_corrupt, no_limit, tell_broke, tells_nothing, each_err}
use Rattle.bl_shell.proofs.LimitLemmas.{reopened_room}
use Rattle.bl_shell.proofs.TopLemmas.{stop_full, stop_not_tell}
use Rattle.bl_logstore.proofs.OtherLemmas.{others_same, others_then}
use Rattle.bl_shell.proofs.obey.do_reopen.Goals as goal

pub returns-in_err-store-clause-front : goal.returns-in_err-store-clause-front
returns-in_err-store-clause-front g c = λ shown. each_err c.from_residual.result _ (λ e silent. tells_nothing ok_line _ _ (c.open_site.ensures.tells_nothing.told shown))

pub returns-in_err-store-clause-corrupt : goal.returns-in_err-store-clause-corrupt
returns-in_err-store-clause-corrupt g c = λ shown name place is.
    let p = err_from_is_err_and c.from_residual.result c.from_residual.ensures.1 in
    let t = c.requires.there shown in
    let e = corrupt_was c.in_err-store.field-0.0 name place (cc (is, p.1, p.2)) in
    c.damaged_do_not_stand.ensures _ name place t.0 c.args.store.now.last (c.in_err-store.ensures.corrupt shown name place (ap Err e)) (stands c.stores_stand.ensures c.args.store.now t.0 t.1.0 _ t.1.1)

pub returns-in_err-tell-clause-front : goal.returns-in_err-tell-clause-front
returns-in_err-tell-clause-front g c = λ shown.
    let P : List ℕ → Type 0 = λ t. TellsFront ok_line t (g.S.Site.told c.tell.new.self) in
    each_err c.from_residual-in_err-tell.result _ (λ e silent. subst P (c.open_site.ensures.tells_nothing.told shown)
    (tell_broke c.in_err-tell.field-0.0 _ _ _ ok_line _ _ refl c.in_err-tell.ensures.cause (c.in_err-tell.ensures.failed shown) (c.in_err-tell.ensures.memory shown)))

pub returns-clause-ok : goal.returns-clause-ok
returns-clause-ok g c = λ shown.
    reopened_line c.stores_stand.ensures c.batches_are_once.ensures c.args.store.now _ _ _ _ _ _ _ c.in_ok-store.ensures.usable (c.in_ok-store.ensures.opened shown)
    (c.in_ok-tell.ensures.stays shown).same (c.open_site.ensures.tells_nothing.told shown) (c.in_ok-tell.ensures.done shown) (c.requires.there shown)

pub returns-in_err-store-clause-cuts : goal.returns-in_err-store-clause-cuts
returns-in_err-store-clause-cuts g c = λ shown certain batches least s.
    widened g.S.Site.clock g.S.Site.left_since _ _ _ _ (λ cut l. cut_quiet (Go Reopen) c.args.store.now batches least _ cut l.told_is l.whole (leaves_first s.older s.own batches s.synced least _ cut s.all s.at_least l))
    (c.open_site.ensures.cuts shown certain c.args.store.now.log s.older s.own s.synced c.args.store.now.last s.whole s.carries.on)

pub returns-in_err-store-clause-full_cuts : goal.returns-in_err-store-clause-full_cuts
returns-in_err-store-clause-full_cuts g c = λ shown certain limit is batches least s.
    widened g.S.Site.clock g.S.Site.left_since _ _ _ _ (λ cut l. cut_quiet Nothing c.args.store.now batches least _ cut l.told_is l.whole (leaves_first s.older s.own batches s.synced least _ cut s.all s.at_least l))
    (c.open_site.ensures.cuts shown certain c.args.store.now.log s.older s.own s.synced c.args.store.now.last s.whole s.carries.on)

pub returns-in_err-tell-clause-cuts : goal.returns-in_err-tell-clause-cuts
returns-in_err-tell-clause-cuts g c = λ shown certain batches least s.
    let mid = c.open_site.new.site in
    replied g.S.Site.clock g.S.Site.left_since g.S.Site.disk g.S.Site.told g.S.Site.may_be c.cuts_stand.ensures (Go Reopen) c.args.store.now _ batches least _ _ mid _
    (widened g.S.Site.clock g.S.Site.left_since _ _ _ _ (λ cut l. cut_quiet (Go Reopen) c.args.store.now batches least _ cut l.told_is l.whole (leaves_first s.older s.own batches s.synced least _ cut s.all s.at_least l))
    (c.open_site.ensures.cuts shown certain c.args.store.now.log s.older s.own s.synced c.args.store.now.last s.whole s.carries.on))
    (c.tell.ensures.time shown) (λ other. g.met.S.Site.only shown mid other (c.in_ok-store.ensures.certain shown)) refl (c.open_site.ensures.tells_nothing.told shown) (least_within c.args.store.now batches least _ s)
    (stays_reopened c.stores_stand.ensures c.batches_are_once.ensures c.args.store.now _ _ _ _ batches least c.in_ok-store.ensures.usable (c.in_ok-store.ensures.opened shown) refl s)

pub returns-clause-cuts : goal.returns-clause-cuts
returns-clause-cuts g c = λ shown certain batches least s.
    let mid = c.open_site.new.site in
    replied g.S.Site.clock g.S.Site.left_since g.S.Site.disk g.S.Site.told g.S.Site.may_be c.cuts_stand.ensures (Go Reopen) c.args.store.now _ batches least _ _ mid _
    (widened g.S.Site.clock g.S.Site.left_since _ _ _ _ (λ cut l. cut_quiet (Go Reopen) c.args.store.now batches least _ cut l.told_is l.whole (leaves_first s.older s.own batches s.synced least _ cut s.all s.at_least l))
    (c.open_site.ensures.cuts shown certain c.args.store.now.log s.older s.own s.synced c.args.store.now.last s.whole s.carries.on))
    (c.tell.ensures.time shown) (λ other. g.met.S.Site.only shown mid other (c.in_ok-store.ensures.certain shown)) refl (c.open_site.ensures.tells_nothing.told shown) (least_within c.args.store.now batches least _ s)
    (stays_reopened c.stores_stand.ensures c.batches_are_once.ensures c.args.store.now _ _ _ _ batches least c.in_ok-store.ensures.usable (c.in_ok-store.ensures.opened shown) refl s)

pub returns-in_err-store-clause-room : goal.returns-in_err-store-clause-room
returns-in_err-store-clause-room g c = λ shown. on_any_err c.from_residual.result _ (inl (c.open_site.ensures.tells_nothing.told shown))

pub returns-in_err-tell-clause-room : goal.returns-in_err-tell-clause-room
returns-in_err-tell-clause-room g c = λ shown.
    let t = c.requires.there shown in
    on_any_err c.from_residual-in_err-tell.result _ (inr (reopened_room c.args.store.now _ t.0 t.1.0 _ _ (c.in_ok-store.ensures.opened shown) t.1.1))

pub returns-in_err-tell-clause-others : goal.returns-in_err-tell-clause-others
returns-in_err-tell-clause-others g c = λ shown. others_then _ _ _ (c.open_site.ensures.others shown) (others_same _ _ (c.tell.ensures.stays shown).same)

pub returns-clause-others : goal.returns-clause-others
returns-clause-others g c = λ shown. others_then _ _ _ (c.open_site.ensures.others shown) (others_same _ _ (c.tell.ensures.stays shown).same)

pub returns-in_err-tell-clause-full_cuts : goal.returns-in_err-tell-clause-full_cuts
returns-in_err-tell-clause-full_cuts g c = λ shown certain limit is.
    let p = err_from_is_err_and c.from_residual-in_err-tell.result c.from_residual-in_err-tell.ensures.1 in
    absurd (no_limit c.in_err-tell.field-0.0 limit (cc (is, p.1, p.2)))

pub returns-in_err-store-clause-obeyed : goal.returns-in_err-store-clause-obeyed
returns-in_err-store-clause-obeyed g c = λ shown is.
    let p = err_from_is_err_and c.from_residual.result c.from_residual.ensures.1 in
    absurd (stop_not_tell c.in_err-store.field-0.0 (cc (is, p.1, p.2)))

pub returns-in_err-tell-clause-obeyed : goal.returns-in_err-tell-clause-obeyed
returns-in_err-tell-clause-obeyed g c = λ shown is.
    reopened_line c.stores_stand.ensures c.batches_are_once.ensures c.args.store.now _ _ _ _ _ _ _ c.in_ok-store.ensures.usable (c.in_ok-store.ensures.opened shown)
    (c.tell.ensures.stays shown).same (c.open_site.ensures.tells_nothing.told shown) (ap (λ t. t ++ ok_line) (sym (c.open_site.ensures.tells_nothing.told shown))) (c.requires.there shown)

pub returns-in_err-store-clause-full_stays : goal.returns-in_err-store-clause-full_stays
returns-in_err-store-clause-full_stays g c = λ shown limit is.
    let p = err_from_is_err_and c.from_residual.result c.from_residual.ensures.1 in
    let e : c.in_err-store.field-0.0 ≡ store.Full limit = stop_full c.in_err-store.field-0.0 limit (cc (is, p.1, p.2)) in
    c.in_err-store.ensures.same shown (subst IsUntouched (sym e) tt)

pub returns-in_err-tell-clause-full_stays : goal.returns-in_err-tell-clause-full_stays
returns-in_err-tell-clause-full_stays g c = λ shown limit is.
    let p = err_from_is_err_and c.from_residual-in_err-tell.result c.from_residual-in_err-tell.ensures.1 in
    absurd (no_limit c.in_err-tell.field-0.0 limit (cc (is, p.1, p.2)))

pub returns-in_err-tell-clause-full : goal.returns-in_err-tell-clause-full
returns-in_err-tell-clause-full g c = λ shown limit is.
    let p = err_from_is_err_and c.from_residual-in_err-tell.result c.from_residual-in_err-tell.ensures.1 in
    absurd (no_limit c.in_err-tell.field-0.0 limit (cc (is, p.1, p.2)))

pub returns-in_err-tell-clause-corrupt : goal.returns-in_err-tell-clause-corrupt
returns-in_err-tell-clause-corrupt g c = λ shown name place is.
    let p = err_from_is_err_and c.from_residual-in_err-tell.result c.from_residual-in_err-tell.ensures.1 in
    no_corrupt c.in_err-tell.field-0.0 name place (cc (is, p.1, p.2))
