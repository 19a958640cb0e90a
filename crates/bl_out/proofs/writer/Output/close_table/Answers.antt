use Rattle.std.proofs.Common.{◌≡◌, ◌≤◌, ℕ, List, length, refl, sym, ◌∙◌, ap, subst, Some}
use Rattle.bl_site.specs.Calls.{Appends}
use Rattle.bl_site.specs.Disk.{Name}
use Rattle.std.proofs.lemmas.Result.{err_from_is_err_and}
use Rattle.bl_names.specs.Names.{name_of}
use Rattle.bl_names.specs.declared.name.FileName.TheVariants.{Table}
use Rattle.bl_out.specs.States.{Hand}
use Rattle.bl_out.specs.contracts.writer.Output.{the_view}
use Rattle.bl_out.proofs.BecomeLemmas.{acts_once, acts_still}
use Rattle.bl_out.proofs.PartLemmas.{memory_of, nothing_closes, table_among, table_closes}
use Rattle.bl_out.proofs.writer.Output.close_table.Goals as goal

pub returns-in_default-clause-becomes : goal.returns-in_default-clause-becomes
returns-in_default-clause-becomes g c = λ next. rw (← c.self.view_is) (nothing_closes g.S.Site c.names_one.ensures (the_view c.self.inside) c.self.invariant.0 next c.args.site.now c.args.site.now c.in_default.is)

pub returns-in_default-clause-acts : goal.returns-in_default-clause-acts
returns-in_default-clause-acts g c = rw (← c.self.view_is) (acts_still g.S.Site _ (the_view c.self.inside) c.args.site.now (λ shown other sure may. g.met.S.Site.only shown c.args.site.now other sure may) (λ shown cut left. g.met.S.Site.only_now shown c.args.site.now cut left) tt)

pub returns-in_err-push-clause-acts : goal.returns-in_err-push-clause-acts
returns-in_err-push-clause-acts g c =
    let same : c.push.new.self.items ≡ c.self.inside.tables.items = c.in_err-push.ensures.items in
    let hand : c.self.inside.table ≡ Some c.finish.new.self = c.in-Some.is ∙ ap Some (sym c.finish.ensures.same) in
    rw (← c.self.view_is, same, ← hand) (acts_still g.S.Site c.from_residual-in_err-push.result (the_view c.self.inside) c.args.site.now (λ shown other sure may. g.met.S.Site.only shown c.args.site.now other sure may) (λ shown cut left. g.met.S.Site.only_now shown c.args.site.now cut left) (memory_of c.from_residual-in_err-push.result c.from_residual-in_err-push.ensures.1))

pub returns-in_err-append-clause-acts : goal.returns-in_err-append-clause-acts
returns-in_err-append-clause-acts g c =
    let p = err_from_is_err_and c.from_residual-in_err-append.result c.from_residual-in_err-append.ensures.1 in
    let a = c.in_err-append.ensures in
    let hand : c.self.inside.table ≡ Some c.finish.new.self = c.in-Some.is ∙ ap Some (sym c.finish.ensures.same) in
    rw (p.1, p.2) (acts_once g.S.Site _ _ _ c.args.site.now c.append.new.site c.name.result.now refl (table_among (the_view c.self.inside) c.finish.new.self hand c.self.invariant.0 c.name.result.now c.name.ensures) a.touches a.tells_nothing a.asked a.causes a.disk)

pub returns-clause-becomes : goal.returns-clause-becomes
returns-clause-becomes g c = λ next.
    let h = c.in-Some.hand in
    let named = c.in_ok-named.ensures in
    let name : c.name.result.now ≡ name_of (Table h.number) = c.name.ensures ∙ ap (λ (k : Hand). name_of (Table k.number)) c.finish.ensures.same in
    let old = g.S.Site.disk c.args.site.now in
    let new = g.S.Site.disk c.append.new.site in
    let sealed : c.self.inside.sealed ≤ length c.self.inside.tables.items = rw (← c.self.view_is) at c.requires.sealed in
    rw (← c.self.view_is, c.in_ok-push.ensures.items)
    (table_closes g.S.Site c.names_one.ensures (the_view c.self.inside) c.self.invariant.0 next c.args.site.now c.append.new.site h c.in-Some.is sealed c.in_ok-named.named named.number named.closed c.in_ok-named.rest named.rest
    (λ shown. subst (λ (bytes : List ℕ). Appends (name_of (Table h.number)) bytes bytes old new) c.as_slice.ensures (subst (λ (n : Name). Appends n c.as_slice.result.now c.as_slice.result.now old new) name (c.in_ok-append.ensures.appended shown)))
    c.append.ensures.certain)

pub returns-clause-acts : goal.returns-clause-acts
returns-clause-acts g c =
    let a = c.in_ok-append.ensures in
    let hand : c.self.inside.table ≡ Some c.finish.new.self = c.in-Some.is ∙ ap Some (sym c.finish.ensures.same) in
    acts_once g.S.Site _ _ _ c.args.site.now c.append.new.site c.name.result.now refl (table_among (the_view c.self.inside) c.finish.new.self hand c.self.invariant.0 c.name.result.now c.name.ensures) a.touches a.tells_nothing a.asked a.causes a.disk
