use Rattle.std.proofs.Common.{Result, Ok, Err, ◌≡◌, ℕ, List, append-nil, subst, [], ◌∷◌, ◌++◌, false, true}
use Rattle.std.specs.Result.{OnOk}
use Rattle.bl_site.specs.Calls.{LeavesOnly}
use Rattle.bl_script.specs.declared.command.Parsed.{Parsed}
use Rattle.bl_shell.specs.Machine.{orders}
use Rattle.bl_shell.specs.Synced.{CutOf}
use Rattle.std.proofs.lemmas.Result.{IfErr-weaker}
use Rattle.bl_shell.proofs.CarriedLemmas.{cuts_so_far}
use Rattle.bl_shell.proofs.EndLemmas.{ends_between, same_orders, finished_so, begun_so, stops_so, falters_so}
use Rattle.bl_shell.proofs.serve.end_script.Goals as goal

-- what two clauses say of one Ok
both_ok : {T E : Type 0} (r : Result T E) (P Q R : Type 0) → (P → Q → R) → OnOk r P → OnOk r Q → OnOk r R
both_ok (Ok x) P Q R f p q = f p q
both_ok (Err e) P Q R f p q = tt

pub returns-then-is_empty-clause-ok : goal.returns-then-is_empty-clause-ok
returns-then-is_empty-clause-ok g c = λ shown began folder told script start carried.
    let empty = c.is_empty.ensures.0 c.if-is_empty.true in
    ends_between began folder told _ script _ c.args.line.now _ _ empty.0 empty.1 carried

some : (g : Rattle.bl_shell.proofs.serve.end_script.Given.Over) (c : goal.After-end_line g) → (c.args.line.now.long ≡ false) × (c.args.line.now.bytes.items ≡ []) → ⊥
some g c both = let is : c.is_empty.result ≡ true = c.is_empty.ensures.1 both in let not : c.is_empty.result ≡ false = c.if-is_empty.false in cc (is, not)

pub returns-clause-ok : goal.returns-clause-ok
returns-clause-ok g c = λ shown. both_ok c.end_line.result _ _ _ (λ ok cleared began folder told script start carried.
    finished_so began folder told _ _ script _ _ _ (same_orders began folder told _ script _ c.args.line.now _ _ (some g c) carried)
    (ends_between began folder told _ _ _ c.end_line.new.line _ _ cleared.0 cleared.1 (ok began folder told script start carried)))
    (c.end_line.ensures.ok shown) c.end_line.ensures.cleared

pub returns-clause-front : goal.returns-clause-front
returns-clause-front g c = λ shown. IfErr-weaker c.end_line.result _ _ (λ e front silent began folder told script start begins carried.
    begun_so folder (script ++ 10 ∷ []) script told _ (same_orders began folder told _ script _ c.args.line.now _ _ (some g c) carried) (front silent began folder told script [] start begins carried))
    (c.end_line.ensures.front shown)

pub returns-clause-full : goal.returns-clause-full
returns-clause-full g c = λ shown limit is began folder told script start begins carried.
    stops_so folder _ (script ++ 10 ∷ []) script told _ limit _ (same_orders began folder told _ script _ c.args.line.now _ _ (some g c) carried) (c.end_line.ensures.full shown limit is began folder told script [] start begins carried)

pub returns-then-is_empty-clause-cuts : goal.returns-then-is_empty-clause-cuts
returns-then-is_empty-clause-cuts g c = λ shown began folder told script start carried.
    let P : List ℕ → Type 0 = λ s. LeavesOnly g.S.Site.clock g.S.Site.left_since start c.args.site.now (CutOf began (orders s) told) in
    subst P (append-nil script) (cuts_so_far g.S.Site.certain g.S.Site.clock g.S.Site.left_since began folder told script _ _ _ _ start c.args.site.now carried [])

pub returns-clause-cuts : goal.returns-clause-cuts
returns-clause-cuts g c = λ shown began folder told script start carried.
    let P : List Parsed → Type 0 = λ os. LeavesOnly g.S.Site.clock g.S.Site.left_since start c.end_line.new.site (CutOf began os told) in
    subst P (same_orders began folder told _ script _ c.args.line.now _ _ (some g c) carried) (c.end_line.ensures.cuts shown began folder told script [] start carried)

pub returns-clause-faltered : goal.returns-clause-faltered
returns-clause-faltered g c = λ shown is began folder told script start begins carried.
    falters_so folder _ (script ++ 10 ∷ []) script told _ (same_orders began folder told _ script _ c.args.line.now _ _ (some g c) carried) (c.end_line.ensures.faltered shown is began folder told script [] start begins carried)
