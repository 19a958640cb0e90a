use Rattle.std.proofs.Common.{◌≡◌, ◌∙◌, sym, subst, leb, ltb, rules, List, drop}
use Rattle.std.specs.List.Sorted.{IsNonDecreasingBy}
use Rattle.std.proofs.lemmas.List.Sorted.{IsPartitionPoint-from_clause, IsPartitionedBy-leb, IsPartitionedBy-ltb, IsNonDecreasingBy-drop}
use Rattle.bl_edit.specs.declared.edit.NewTable.{NewTable}
use Rattle.bl_build.proofs.Levels.{level_split}
use Rattle.bl_build.proofs.table.level_of.Goals as goal

pub returns : goal.returns
returns c =
    let xs : List NewTable = c.args.tables.now in
    let behind : c.split_at.result.1.now ≡ drop c.partition_point-start.result xs = c.split_at.ensures.back in
    let parted = IsPartitionedBy-ltb (λ (t : NewTable). t.level) xs c.args.level c.requires in
    let point = IsPartitionPoint-from_clause (λ (t : NewTable). ltb t.level c.args.level) _ _ c.partition_point-start.ensures.partitioned parted (λ a r q k. search rules) in
    let rest : IsNonDecreasingBy (λ (t : NewTable). t.level) c.split_at.result.1.now =
    subst (IsNonDecreasingBy (λ (t : NewTable). t.level)) (sym behind) (IsNonDecreasingBy-drop (λ (t : NewTable). t.level) c.partition_point-start.result xs c.requires) in
    let parted2 = IsPartitionedBy-leb (λ (t : NewTable). t.level) c.split_at.result.1.now c.args.level rest in
    let point2 = IsPartitionPoint-from_clause (λ (t : NewTable). leb t.level c.args.level) _ _ c.partition_point-size.ensures.partitioned parted2 (λ a r q k. search rules) in
    c.split_at-2.ensures.front
    ∙ sym (level_split c.args.level c.partition_point-start.result c.partition_point-size.result xs c.split_at.result.1.now c.requires c.partition_point-start.ensures.bound behind
    c.partition_point-size.ensures.bound point point2)
