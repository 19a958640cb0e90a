use Rattle.std.proofs.Common.{◌≡◌, ℕ, Bool, true, false, length, sym, ap, ◌∙◌, arith}
use Rattle.std.specs.Prelude.{◌==◌, ◌&&◌, ◌||◌, not}
use Rattle.std.specs.List.{list_any}
use Rattle.std.specs.Ordering.{nat_cmp}
use Rattle.std.specs.BTreeSet.{contains}
use Rattle.std.proofs.lemmas.Bool.{eqb-true}
use Rattle.std.proofs.lemmas.Grind.{common_steps}
use Rattle.bl_edit.specs.declared.edit.NewTable.{NewTable}
use Rattle.bl_build.specs.Versions.{table_numbers}
use Rattle.bl_build.proofs.Searching.{any_mapped, none_twice, seeks_end, seeks_here, seeks_more, seeks_start}
use Rattle.bl_build.proofs.checks.first_table_twice.Goals as goal

abbrev number_of : NewTable → ℕ
number_of t = t.number

-- of a number that is looked for
free_means : (a b free : Bool) → free ≡ (a && not b) → a ≡ true → not free ≡ b
free_means true true free e h = ap not e
free_means true false free e h = ap not e
free_means false b free e h = absurd cc

taken : (n free more : Bool) → more ≡ (not n && free) → not more ≡ (n || not free)
taken true free more e = ap not e
taken false free more e = ap not e

pub returns-then-is_empty : goal.returns-then-is_empty
returns-then-is_empty c = sym (none_twice number_of (table_numbers c.args.left.now) c.args.added.now (eqb-true (length c.args.added.now) 0 (sym c.is_empty.ensures ∙ c.if-is_empty.true)))

pub loop-table-init : goal.loop-table-init
loop-table-init c =
    let left = c.args.left.now in
    seeks_start number_of (table_numbers left) c.args.added.now (λ q. not (contains nat_cmp c.in_ok-free.free q))
    (λ q member. free_means (list_any (λ t. t.number == q) c.args.added.now) (list_any (λ t. t.number == q) left) _ (c.in_ok-free.ensures q) member ∙ sym (any_mapped number_of left q))

pub returns-then-not-remove : goal.returns-then-not-remove
returns-then-not-remove c =
    let item : NewTable = c.table-item.result in
    sym (seeks_here number_of (table_numbers c.args.left.now) c.args.added.now c.loop-table.table-index (λ q. not (contains nat_cmp c.loop-table.free q)) item item c.loop-table.invariant c.loop-table-test.true
    c.table-item.is (ap not (sym c.remove.ensures.test ∙ c.if-not-remove.true)))

pub loop-table-preserved : goal.loop-table-preserved
loop-table-preserved c =
    let item : NewTable = c.table-item.result in
    let less : (q : ℕ) → contains nat_cmp c.remove.new.self q ≡ (not (item.number == q) && contains nat_cmp c.loop-table.free q) = λ q. grind (arith, common_steps, c.remove.ensures.updates.0 q) in
    seeks_more number_of (table_numbers c.args.left.now) c.args.added.now c.loop-table.table-index (λ q. not (contains nat_cmp c.loop-table.free q)) (λ q. not (contains nat_cmp c.remove.new.self q)) item item
    c.loop-table.invariant c.loop-table-test.true c.table-item.is (ap not (sym c.remove.ensures.test ∙ c.if-not-remove.false))
    (λ q. taken (item.number == q) (contains nat_cmp c.loop-table.free q) (contains nat_cmp c.remove.new.self q) (less q))

pub returns : goal.returns
returns c = sym (seeks_end number_of (table_numbers c.args.left.now) c.args.added.now c.loop-table.table-index (λ q. not (contains nat_cmp c.loop-table.free q)) c.loop-table.invariant (omega (arith, c.loop-table-test.false)))
