use Rattle.std.proofs.Common.{Bool, List, rules}
use Rattle.std.specs.Ordering.{is_lt}
use Rattle.std.proofs.lemmas.List.Sorted.{IsPartitionPoint-from_clause}
use Rattle.bl_entry.specs.Keys.{key_cmp}
use Rattle.bl_entry.specs.declared.key.Entry.{Entry}
use Rattle.bl_cache.proofs.SearchLemmas.{parted, point_is}
use Rattle.bl_cache.proofs.table_run.place_of.Goals as goal

pub returns-clause-place : goal.returns-clause-place
returns-clause-place c =
    let p : Entry → Bool = λ e. is_lt (key_cmp e.key c.args.from.now) in
    let es : List Entry = c.args.entries.now in
    let point = IsPartitionPoint-from_clause p es _ c.partition_point.ensures.partitioned (parted c.args.from.now es c.requires) (λ a r q k. search rules) in
    point_is p es c.partition_point.result c.partition_point.ensures.bound point
