use Rattle.std.proofs.Common.{ℕ, List, rules, subst, sym, nat_lt}
use Rattle.std.proofs.lemmas.List.Sorted.{IsPartitionPoint-from_clause}
use Rattle.bl_open.proofs.FromLemmas.{logs_from, parted, rest_is}
use Rattle.bl_open.specs.Replaying.{AreLogsFrom}
use Rattle.bl_open.proofs.opening.numbers_from.Goals as goal

pub returns-clause-logs : goal.returns-clause-logs
returns-clause-logs c = λ folder logs.
    let xs : List ℕ = c.args.numbers.now in
    let point = IsPartitionPoint-from_clause (λ n. nat_lt n c.args.from) xs _ c.partition_point.ensures.partitioned (parted c.args.from xs logs.ascend) (λ a r q k. search rules) in
    subst (AreLogsFrom folder c.args.from) (sym (rest_is xs c.partition_point.result)) (logs_from folder c.args.from xs c.partition_point.result c.partition_point.ensures.bound point logs)
