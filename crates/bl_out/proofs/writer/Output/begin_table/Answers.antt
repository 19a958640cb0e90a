use Rattle.std.proofs.Common.{◌≡◌, ℕ, length, refl, ◌∙◌, ap, subst, arith, true, None}
use Rattle.std.proofs.lemmas.Result.{err_from_is_err_and}
use Rattle.bl_site.specs.Calls.{Creates}
use Rattle.bl_site.specs.Disk.{Name}
use Rattle.bl_names.specs.Names.{IsNumber, name_of}
use Rattle.bl_names.specs.declared.name.FileName.TheVariants.{Table}
use Rattle.bl_out.specs.States.{State}
use Rattle.bl_out.specs.contracts.writer.Output.{the_view}
use Rattle.bl_out.proofs.BecomeLemmas.{acts_once, acts_still, none_drawn}
use Rattle.bl_out.proofs.PartLemmas.{memory_of, drawn_more, drawn_table, new_table_among, none_sealed, not_set, table_starts}
use Rattle.bl_out.proofs.writer.Output.begin_table.Goals as goal

pub returns-in_err-push-clause-draws : goal.returns-in_err-push-clause-draws
returns-in_err-push-clause-draws g c = none_drawn 1 c.args.self.now _ c.args.numbers.now c.args.numbers.now (c.in_err-push.ensures.items ∙ ap (λ (s : State). s.drawn) c.self.view_is) refl

pub returns-in_err-push-clause-acts : goal.returns-in_err-push-clause-acts
returns-in_err-push-clause-acts g c =
    rw (← c.self.view_is, c.in_err-push.ensures.items) (acts_still g.S.Site c.from_residual-in_err-push.result (the_view c.self.inside) c.args.site.now (λ shown other sure may. g.met.S.Site.only shown c.args.site.now other sure may) (λ shown cut left. g.met.S.Site.only_now shown c.args.site.now cut left) (memory_of c.from_residual-in_err-push.result c.from_residual-in_err-push.ensures.1))

pub invariant_of-self-in_err-create : goal.invariant_of-self-in_err-create
invariant_of-self-in_err-create g c =
    let n = c.next-number.result in
    let is : IsNumber n = (c.next-number.ensures.some, omega arith) in
    rw c.in_ok-push.ensures.items (drawn_more (the_view c.self.inside) n true c.self.invariant.0 is, λ unset. not_set unset)

pub returns-in_err-create-clause-acts : goal.returns-in_err-create-clause-acts
returns-in_err-create-clause-acts g c =
    let n = c.next-number.result in
    let p = err_from_is_err_and c.from_residual-in_err-create.result c.from_residual-in_err-create.ensures.1 in
    let a = c.in_err-create.ensures in
    let name : c.name.result.now ≡ name_of (Table n) = c.name.ensures ∙ ap (λ (m : ℕ). name_of (Table m)) c.in_ok-hand.ensures.number in
    rw (p.1, p.2, c.in_ok-push.ensures.items) (acts_once g.S.Site _ _ _ c.args.site.now c.create.new.site c.name.result.now refl (new_table_among c.self.inside.drawn.items n c.name.result.now name) a.touches a.tells_nothing a.asked a.causes a.disk)

pub invariant_of-self-2 : goal.invariant_of-self-2
invariant_of-self-2 g c =
    let n = c.next-number.result in
    let is : IsNumber n = (c.next-number.ensures.some, omega arith) in
    rw c.in_ok-push.ensures.items (drawn_table (the_view c.self.inside) n true c.in_ok-hand.hand c.in_ok-hand.ensures.number c.self.invariant.0 is, λ unset. not_set unset)

pub returns-clause-becomes : goal.returns-clause-becomes
returns-clause-becomes g c =
    let s = the_view c.self.inside in
    let next = c.args.numbers.now in
    let is : IsNumber next = (omega (arith, c.next-number.ensures.some, c.next-number.ensures.value), omega (arith, c.next-number.ensures.value)) in
    let old = g.S.Site.disk c.args.site.now in
    let new = g.S.Site.disk c.create.new.site in
    let name : c.name.result.now ≡ name_of (Table next) = c.name.ensures ∙ ap (λ (m : ℕ). name_of (Table m)) c.in_ok-hand.ensures.number ∙ ap (λ (n : ℕ). name_of (Table n)) c.next-number.ensures.value in
    let unsealed : s.sealed ≡ 0 = rw (← c.self.view_is) at c.requires.unsealed in
    let none : s.table ≡ None = rw (← c.self.view_is) at c.requires.none in
    rw (← c.self.view_is, c.in_ok-push.ensures.items, c.next-number.ensures.value)
    ((table_starts g.S.Site c.names_one.ensures s c.self.invariant.0 next c.args.site.now c.create.new.site c.in_ok-hand.hand none (none_sealed s.sealed (length s.tables) unsealed) is
    (c.in_ok-hand.ensures.number ∙ c.next-number.ensures.value) c.in_ok-hand.ensures.spans (λ shown. subst (λ (n : Name). Creates n old new) name (c.in_ok-create.ensures.created shown)) c.in_ok-create.ensures.certain))

pub returns-clause-acts : goal.returns-clause-acts
returns-clause-acts g c =
    let n = c.next-number.result in
    let a = c.in_ok-create.ensures in
    let name : c.name.result.now ≡ name_of (Table n) = c.name.ensures ∙ ap (λ (m : ℕ). name_of (Table m)) c.in_ok-hand.ensures.number in
    rw c.in_ok-push.ensures.items (acts_once g.S.Site _ _ _ c.args.site.now c.create.new.site c.name.result.now refl (new_table_among c.self.inside.drawn.items n c.name.result.now name) a.touches a.tells_nothing a.asked a.causes a.disk)
