use Rattle.std.proofs.Common.{refl}
use Rattle.bl_code.proofs.Basics.{on_any_err}
use Rattle.bl_shell.proofs.MomentLemmas.{telling}
use Rattle.bl_shell.proofs.StayLemmas.{told_only}
use Rattle.bl_shell.proofs.TellLemmas.{tell_broke}
use Rattle.bl_logstore.proofs.OtherLemmas.{others_same}
use Rattle.bl_shell.proofs.obey.do_tell.Goals as goal

pub returns-in_err-tell-clause-front : goal.returns-in_err-tell-clause-front
returns-in_err-tell-clause-front g c = λ shown.
    on_any_err c.from_residual.result _ (tell_broke c.in_err-tell.field-0.0 _ _ _ _ _ _ refl c.in_err-tell.ensures.cause (c.in_err-tell.ensures.failed shown) (c.in_err-tell.ensures.memory shown))

pub returns-clause-ok : goal.returns-clause-ok
returns-clause-ok g c = λ shown order told. told_only order c.args.store.now _ _ c.args.reply.now _ _ told (c.in_ok-tell.ensures.stays shown).same (c.in_ok-tell.ensures.done shown)

pub returns-in_err-tell-clause-cuts : goal.returns-in_err-tell-clause-cuts
returns-in_err-tell-clause-cuts g c = λ shown certain.
    telling g.S.Site.clock g.S.Site.left_since g.S.Site.disk g.S.Site.told g.S.Site.may_be c.args.site.now _ c.args.reply.now (c.tell.ensures.time shown)
    (λ other. g.met.S.Site.only shown c.args.site.now other certain) (λ cut. g.met.S.Site.only_now shown c.args.site.now cut)

pub returns-clause-cuts : goal.returns-clause-cuts
returns-clause-cuts g c = λ shown certain.
    telling g.S.Site.clock g.S.Site.left_since g.S.Site.disk g.S.Site.told g.S.Site.may_be c.args.site.now _ c.args.reply.now (c.tell.ensures.time shown)
    (λ other. g.met.S.Site.only shown c.args.site.now other certain) (λ cut. g.met.S.Site.only_now shown c.args.site.now cut)

pub returns-in_err-tell-clause-others : goal.returns-in_err-tell-clause-others
returns-in_err-tell-clause-others g c = λ shown. others_same _ _ (c.tell.ensures.stays shown).same

pub returns-clause-others : goal.returns-clause-others
returns-clause-others g c = λ shown. others_same _ _ (c.tell.ensures.stays shown).same

pub returns-in_err-tell-clause-obeyed : goal.returns-in_err-tell-clause-obeyed
returns-in_err-tell-clause-obeyed g c = λ shown order told. told_only order c.args.store.now _ _ c.args.reply.now _ _ told (c.tell.ensures.stays shown).same refl

pub returns-clause-obeyed : goal.returns-clause-obeyed
returns-clause-obeyed g c = λ shown order told. told_only order c.args.store.now _ _ c.args.reply.now _ _ told (c.tell.ensures.stays shown).same refl
