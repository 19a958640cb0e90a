use Rattle.std.proofs.Common.{◌<◌, ◌≤◌, ltb, ltb-true, ltb-false, arith, rules, length, List, [], sym, ap, ◌∙◌}
use Rattle.std.specs.Prelude.{◌==◌}
use Rattle.std.proofs.lemmas.List.Sorted.{IsPartitionPoint-from_clause, IsPartitionedBy-ltb}
use Rattle.bl_edit.specs.declared.edit.NewTable.{NewTable}
use Rattle.bl_build.specs.Listing.{table_rank}
use Rattle.bl_build.proofs.Placing.{ascends_at}
use Rattle.bl_build.proofs.Searching.{none_at, test_at}
use Rattle.bl_build.proofs.checks.has_rank.Goals as goal

pub returns-in_default : goal.returns-in_default
returns-in_default c =
    let ts : List NewTable = c.args.tables.now in
    let parted = IsPartitionedBy-ltb table_rank ts c.args.rank (ascends_at table_rank ts c.requires) in
    let point = IsPartitionPoint-from_clause (λ (t : NewTable). ltb (table_rank t) c.args.rank) _ _ c.partition_point-at.ensures.partitioned parted (λ a r q k. search rules) in
    let end : length ts ≤ c.partition_point-at.result = ltb-false c.partition_point-at.result (length ts) (sym c.in_default.ensures.lookup.0) in
    let zero : NewTable = record { level = 0; number = 0; size = 0; smallest = []; largest = []; least_seq = 0; most_seq = 0; oldest_blob = 0 } in
    sym (none_at table_rank c.args.rank c.partition_point-at.result ts zero c.requires point (λ lt. absurd (omega arith)))

pub returns : goal.returns
returns c =
    let ts : List NewTable = c.args.tables.now in
    let parted = IsPartitionedBy-ltb table_rank ts c.args.rank (ascends_at table_rank ts c.requires) in
    let point = IsPartitionPoint-from_clause (λ (t : NewTable). ltb (table_rank t) c.args.rank) _ _ c.partition_point-at.ensures.partitioned parted (λ a r q k. search rules) in
    let within : c.partition_point-at.result < length ts = ltb-true c.partition_point-at.result (length ts) (sym c.in-Some.ensures.lookup.0) in
    ap (λ q. q == c.args.rank) c.rank_of.ensures ∙ test_at table_rank c.args.rank c.partition_point-at.result ts c.in-Some.table.now c.requires point within c.in-Some.ensures.lookup.1
