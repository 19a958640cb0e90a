use Rattle.std.proofs.Common.{ltb, rules, sym, subst, List}
use Rattle.std.specs.List.Sorted.{IsNonDecreasingBy}
use Rattle.std.proofs.lemmas.List.Sorted.{IsPartitionPoint-from_clause, IsPartitionedBy-ltb}
use Rattle.bl_edit.specs.declared.edit.NewTable.{NewTable}
use Rattle.bl_build.specs.Listing.{table_rank}
use Rattle.bl_build.proofs.Placing.{insert_more}
use Rattle.bl_build.proofs.step.with_tables.Goals as goal

pub loop-table-preserved : goal.loop-table-preserved
loop-table-preserved c =
    let seen : List NewTable = c.deref.result.now in
    let rise : IsNonDecreasingBy table_rank seen = subst (IsNonDecreasingBy table_rank) (sym c.deref.ensures.value) c.loop-table.invariant.rise in
    let parted = IsPartitionedBy-ltb table_rank seen c.rank_of-rank.result rise in
    let point = IsPartitionPoint-from_clause (λ (t : NewTable). ltb (table_rank t) c.rank_of-rank.result) _ _ c.partition_point-at.ensures.partitioned parted (λ a r q k. search rules) in
    let more = insert_more table_rank c.args.added.now c.args.left.items c.loop-table.tables.items seen c.insert.new.self.items c.loop-table.table-index c.partition_point-at.result c.rank_of-rank.result
    c.in_ok-copied.field-0 c.table-item.result c.table-item.result c.deref.ensures.value c.loop-table.invariant.rise c.loop-table.invariant.placed c.loop-table-test.true c.table-item.is c.in_ok-copied.ensures
    c.rank_of-rank.ensures c.partition_point-at.ensures.bound point c.in_ok-insert.ensures.items in
    record { placed = more.0; rise = more.1 }
