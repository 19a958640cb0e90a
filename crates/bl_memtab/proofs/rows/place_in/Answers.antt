use Rattle.std.proofs.Common.{Bool, List, rules}
use Rattle.std.proofs.lemmas.List.Sorted.{IsPartitionPoint-from_clause}
use Rattle.bl_entry.specs.declared.key.Entry.{Entry}
use Rattle.bl_memtab.specs.Rows.{is_before}
use Rattle.bl_memtab.proofs.Cuts.{cut_parted, point_is}
use Rattle.bl_memtab.proofs.Orders.{before_cut}
use Rattle.bl_memtab.proofs.rows.place_in.Goals as goal

pub returns : goal.returns
returns c =
    let p : Entry → Bool = is_before c.args.user.now c.args.number c.args.strict in
    let es : List Entry = c.args.row.now in
    let cut = before_cut c.args.user.now c.args.number c.args.strict es c.requires in
    let point = IsPartitionPoint-from_clause p es _ c.partition_point.ensures.partitioned (cut_parted p es cut) (λ a r q k. search rules) in
    point_is p es c.partition_point.result c.partition_point.ensures.bound point
