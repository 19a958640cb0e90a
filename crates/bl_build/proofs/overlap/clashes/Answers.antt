use Rattle.std.proofs.Common.{ℕ, ◌-◌, ◌<◌, ◌≤◌, ◌∙◌, arith, rules, length, List, ap, sym}
use Rattle.std.specs.Prelude.{not}
use Rattle.std.specs.Borrow.{Bor}
use Rattle.std.proofs.lemmas.Bool.{eq-eqb}
use Rattle.std.proofs.lemmas.List.Sorted.{IsPartitionPoint-from_clause}
use Rattle.bl_edit.specs.declared.edit.NewTable.{NewTable}
use Rattle.bl_build.specs.Fronts.{reaches}
use Rattle.bl_build.proofs.Fronting.{by_last, by_none, parted_by}
use Rattle.bl_build.proofs.overlap.clashes.Goals as goal

pub returns-then-count-ne0 : goal.returns-then-count-ne0
returns-then-count-ne0 c =
    let ts : List (Bor NewTable) = c.args.front.now in
    let t : NewTable = c.args.table.now in
    let u : Bor NewTable = c.index-front-count.result in
    let count : ℕ = c.partition_point-count.result in
    let point = IsPartitionPoint-from_clause (λ (v : Bor NewTable). reaches v.now t) _ _ c.partition_point-count.ensures.partitioned (parted_by ts t c.requires) (λ a r q k. search rules) in
    let bound : count ≤ length ts = c.partition_point-count.ensures.bound in
    let some : count - 1 < count = omega (arith, c.if-count-ne0.true) in
    c.clash.ensures ∙ by_last ts t (count - 1) u c.requires (omega arith) c.index-front-count.is (point.0 (count - 1) u (omega arith) some) (λ k le lt. point.1 k u (omega arith) lt)

pub returns-else-count-ne0 : goal.returns-else-count-ne0
returns-else-count-ne0 c =
    let ts : List (Bor NewTable) = c.args.front.now in
    let t : NewTable = c.args.table.now in
    let count : ℕ = c.partition_point-count.result in
    let point = IsPartitionPoint-from_clause (λ (v : Bor NewTable). reaches v.now t) _ _ c.partition_point-count.ensures.partitioned (parted_by ts t c.requires) (λ a r q k. search rules) in
    ap not (eq-eqb count 0 c.if-count-ne0.false) ∙ sym (by_none ts t c.args.table (λ k lt. point.1 k c.args.table (omega (arith, c.if-count-ne0.false)) lt))
