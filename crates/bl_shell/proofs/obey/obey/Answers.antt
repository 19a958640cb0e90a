use Rattle.std.proofs.Common.{[], refl, sym, append-nil, rules, inr}
use Rattle.bl_script.specs.declared.command.Parsed.TheVariants.{Nothing, Refused}
use Rattle.bl_site.proofs.Moments.{widened}
use Rattle.bl_shell.specs.Carried.{IsTold}
use Rattle.bl_code.proofs.Basics.{on_any_err}
use Rattle.bl_shell.proofs.CutLemmas.{cut_only_told}
use Rattle.bl_shell.proofs.MomentLemmas.{unbegun}
use Rattle.bl_shell.proofs.StayLemmas.{told_only}
use Rattle.bl_shell.proofs.LimitLemmas.{quiet_room}
use Rattle.bl_shell.proofs.obey.obey.Goals as goal

pub returns-in-Nothing-clause-ok : goal.returns-in-Nothing-clause-ok
returns-in-Nothing-clause-ok g c = λ shown.
    rw c.in-Nothing.is (told_only Nothing c.args.store.now _ _ [] _ _ (record { writes = refl; tells = refl; opens = refl; no_sync = refl }) refl (sym (append-nil (g.S.Site.told c.args.site.now))))

pub returns-in-Nothing-clause-cuts : goal.returns-in-Nothing-clause-cuts
returns-in-Nothing-clause-cuts g c = λ shown certain batches least s.
    unbegun g.S.Site.clock g.S.Site.left_since g.S.Site.disk g.S.Site.told g.S.Site.may_be c.cuts_stand.ensures c.args.order c.args.store.now batches least c.args.site.now
    (λ other. g.met.S.Site.only shown c.args.site.now other certain) (λ cut. g.met.S.Site.only_now shown c.args.site.now cut) s

pub returns-in-Refused-clause-cuts : goal.returns-in-Refused-clause-cuts
returns-in-Refused-clause-cuts g c = λ shown certain batches least s.
    let store = c.args.store.now in
    let t : IsTold (Refused c.in-Refused.why) store.now c.print_refusal.result.now = record { writes = refl; tells = search rules; opens = refl; no_sync = refl } in
    rw c.in-Refused.is (widened g.S.Site.clock g.S.Site.left_since c.args.site.now c.do_tell.new.site _ _
    (λ cut k. cut_only_told c.cuts_stand.ensures (Refused c.in-Refused.why) store batches least _ _ _ cut t s k) (c.do_tell.ensures.cuts shown certain))

pub returns-in-Go-clause-cuts : goal.returns-in-Go-clause-cuts
returns-in-Go-clause-cuts g c = λ shown certain batches least s. rw c.in-Go.is (c.do_command.ensures.cuts shown certain batches least s)

pub returns-in-Refused-clause-room : goal.returns-in-Refused-clause-room
returns-in-Refused-clause-room g c = λ shown.
    let t = c.requires.there shown in
    rw c.in-Refused.is (on_any_err c.do_tell.result _ (inr (quiet_room (Refused c.in-Refused.why) c.args.store.now t.0 t.1.0 _ refl refl t.1.1)))

pub returns-in-Go-clause-room : goal.returns-in-Go-clause-room
returns-in-Go-clause-room g c = λ shown. rw c.in-Go.is (c.do_command.ensures.room shown)
