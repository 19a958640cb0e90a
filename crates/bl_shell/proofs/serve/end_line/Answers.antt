use Rattle.std.proofs.Common.{◌≡◌, [], ◌∷◌, ◌++◌, ap, map, sym, subst, Err}
use Rattle.std.proofs.lemmas.Result.{err_from_is_err_and}
use Rattle.bl_site.proofs.Moments.{widened}
use Rattle.bl_script.specs.Lines.{lines_in}
use Rattle.bl_script.specs.Parsing.{parsed}
use Rattle.bl_shell.specs.declared.stop.Stop.TheVariants as stop
use Rattle.bl_shell.specs.Causes.{IsSilent}
use Rattle.bl_shell.specs.Machine.{orders, orders_of}
use Rattle.bl_shell.proofs.TellLemmas.{each_err}
use Rattle.bl_shell.proofs.CarriedLemmas.{line_obeyed, line_broken, line_faltered, line_full, line_cuts, refused_cuts, cuts_so_far, orders_here, broken}
use Rattle.bl_shell.proofs.CutLemmas.{cut_of_given}
use Rattle.bl_shell.proofs.serve.end_line.Goals as goal

pub returns-in_err-order-clause-front : goal.returns-in_err-order-clause-front
returns-in_err-order-clause-front g c = λ shown. each_err c.from_residual.result _ (λ e silent began folder told script more start begins carried.
    broken began folder told _ script (10 ∷ more) _ _ _ _ begins carried)

pub returns-in_err-order-clause-cuts : goal.returns-in_err-order-clause-cuts
returns-in_err-order-clause-cuts g c = λ shown began folder told script more start carried.
    cuts_so_far g.S.Site.certain g.S.Site.clock g.S.Site.left_since began folder told script _ _ _ _ start c.args.site.now carried (10 ∷ more)

pub returns-in_err-obey-clause-front : goal.returns-in_err-obey-clause-front
returns-in_err-obey-clause-front g c =
    let p = err_from_is_err_and c.from_residual-in_err-obey.result c.from_residual-in_err-obey.ensures.1 in
    rw p.1 (λ shown silent began folder told script more start begins carried.
    let same : p.0 ≡ c.in_err-obey.field-0.0 = cc p.2 in
    line_broken began folder told _ script more _ _ c.in_ok-order.order _ _ _ begins c.in_ok-order.ensures.parsed (c.in_err-obey.ensures.front shown (subst IsSilent same silent)) (c.in_err-obey.ensures.room shown) carried)

pub returns-in_err-obey-clause-full : goal.returns-in_err-obey-clause-full
returns-in_err-obey-clause-full g c = λ shown limit is began folder told script more start begins carried.
    let p = err_from_is_err_and c.from_residual-in_err-obey.result c.from_residual-in_err-obey.ensures.1 in
    let e : c.in_err-obey.field-0.0 ≡ stop.Full limit = cc (is, p.1, p.2) in
    let f = c.in_err-obey.ensures.full shown limit (ap Err e) in
    line_full began folder told _ c.stores_stand.ensures c.batches_make_the_map.ensures script more _ _ c.in_ok-order.order _ _ _ _ limit _ begins (c.in_err-obey.ensures.full_stays shown limit (ap Err e)) c.in_ok-order.ensures.parsed f.0 f.1 carried
    (refused_cuts g.S.Site.certain g.S.Site.clock g.S.Site.left_since c.batches_make_the_map.ensures began folder told script _ _ _ _ start c.args.site.now c.obey.new.site carried
    (c.in_err-obey.ensures.full_cuts shown carried.cuts.certain_now limit (ap Err e) _ _ carried.stays))

pub returns-in_err-obey-clause-cuts : goal.returns-in_err-obey-clause-cuts
returns-in_err-obey-clause-cuts g c = λ shown began folder told script more start carried.
    let order = c.in_ok-order.order in
    widened g.S.Site.clock g.S.Site.left_since start c.obey.new.site _ _
    (λ cut o. cut_of_given began (orders_of carried.history ++ (order ∷ [])) (orders (script ++ 10 ∷ more)) (map parsed (lines_in [] more)) told cut
    (orders_here began folder told _ script _ _ order _ _ more carried c.in_ok-order.ensures.parsed) o)
    (line_cuts g.S.Site.certain g.S.Site.clock g.S.Site.left_since c.batches_make_the_map.ensures began folder told script _ _ _ _ start c.args.site.now c.obey.new.site carried order
    (c.obey.ensures.cuts shown carried.cuts.certain_now _ _ carried.stays))

pub returns-clause-ok : goal.returns-clause-ok
returns-clause-ok g c = λ shown began folder told script start carried.
    let order = c.in_ok-order.order in
    line_obeyed began folder told _ script _ _ _ _ order _ _ _ _ _ c.in_ok-order.ensures.parsed c.clear.ensures.holds (c.in_ok-obey.ensures.ok shown) carried
    (record {
      certain_now = c.in_ok-obey.ensures.certain shown carried.cuts.certain_now;
      leaves = line_cuts g.S.Site.certain g.S.Site.clock g.S.Site.left_since c.batches_make_the_map.ensures began folder told script _ _ _ _ start c.args.site.now c.obey.new.site carried order
          (c.obey.ensures.cuts shown carried.cuts.certain_now _ _ carried.stays);
    })

pub returns-clause-cuts : goal.returns-clause-cuts
returns-clause-cuts g c = λ shown began folder told script more start carried.
    let order = c.in_ok-order.order in
    widened g.S.Site.clock g.S.Site.left_since start c.obey.new.site _ _
    (λ cut o. cut_of_given began (orders_of carried.history ++ (order ∷ [])) (orders (script ++ 10 ∷ more)) (map parsed (lines_in [] more)) told cut
    (orders_here began folder told _ script _ _ order _ _ more carried c.in_ok-order.ensures.parsed) o)
    (line_cuts g.S.Site.certain g.S.Site.clock g.S.Site.left_since c.batches_make_the_map.ensures began folder told script _ _ _ _ start c.args.site.now c.obey.new.site carried order
    (c.obey.ensures.cuts shown carried.cuts.certain_now _ _ carried.stays))

pub obey-requires-clause-there : goal.obey-requires-clause-there
obey-requires-clause-there g c = λ shown. let t = c.requires.there shown in (_, (_, t.1.1.1.1.1.stays))

pub returns-in_err-obey-clause-faltered : goal.returns-in_err-obey-clause-faltered
returns-in_err-obey-clause-faltered g c = λ shown is began folder told script more start begins carried.
    let p = err_from_is_err_and c.from_residual-in_err-obey.result c.from_residual-in_err-obey.ensures.1 in
    let e : c.in_err-obey.field-0.0 ≡ stop.Tell = cc (is, p.1, p.2) in
    line_faltered began folder told _ c.stores_stand.ensures c.batches_make_the_map.ensures script more _ _ _ c.in_ok-order.order _ _ _ _ begins c.in_ok-order.ensures.parsed
    (c.in_err-obey.ensures.obeyed shown (ap Err e)) (c.in_err-obey.ensures.front shown (subst IsSilent (sym e) tt)) carried
