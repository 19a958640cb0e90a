use Rattle.std.proofs.Common.{◌≡◌, Bool, true, false, cond, take, refl, sym, ap, ◌∙◌, arith}
use Rattle.std.specs.Prelude.{◌==◌, ◌+◌, ◌&&◌, ◌||◌, not}
use Rattle.std.specs.List.{list_any}
use Rattle.std.specs.Ordering.{nat_cmp}
use Rattle.std.specs.BTreeSet.{contains}
use Rattle.std.proofs.lemmas.Grind.{common_steps}
use Rattle.std.proofs.lemmas.List.Folds.{list_any_more}
use Rattle.bl_edit.specs.declared.edit.NewTable.{NewTable}
use Rattle.bl_build.proofs.checks.free_numbers.Goals as goal

-- one number less
taken : (a b n : Bool) → cond n false (a && not b) ≡ (a && not (b || n))
taken true true true = refl
taken true true false = refl
taken true false true = refl
taken true false false = refl
taken false true true = refl
taken false true false = refl
taken false false true = refl
taken false false false = refl

pub loop-table-preserved : goal.loop-table-preserved
loop-table-preserved c = λ q.
    let item : NewTable = c.table-item.result in
    let test : NewTable → Bool = λ t. t.number == q in
    let front : Bool = list_any test (take c.loop-table.table-index c.args.left.now) in
    let less : contains nat_cmp c.remove.new.self q ≡ cond (item.number == q) false (contains nat_cmp c.loop-table.free q) = grind (arith, common_steps, c.remove.ensures.updates.0 q) in
    let more : list_any test (take (c.loop-table.table-index + 1) c.args.left.now) ≡ (front || (item.number == q)) =
    list_any_more test c.args.left.now c.loop-table.table-index item c.loop-table-test.true ∙ ap (λ t. front || test t) (sym c.table-item.is) in
    less ∙ ap (cond (item.number == q) false) (c.loop-table.invariant q) ∙ taken (list_any test c.args.added.now) front (item.number == q)
    ∙ ap (λ b. list_any test c.args.added.now && not b) (sym more)
