use Rattle.std.proofs.Common.{Bool, List, rules}
use Rattle.std.proofs.lemmas.List.Sorted.{IsPartitionPoint-from_clause}
use Rattle.bl_entry.specs.declared.key.Entry.{Entry}
use Rattle.bl_memtab.specs.Rows.{Row, ends, entries_in, is_before}
use Rattle.bl_memtab.proofs.Cuts.{cut_parted, point_is}
use Rattle.bl_memtab.proofs.Orders.{before_cut}
use Rattle.bl_memtab.proofs.RowLemmas.{rows_cut}
use Rattle.bl_memtab.proofs.rows.row_of.Goals as goal

pub returns : goal.returns
returns c =
    let p : Entry → Bool = is_before c.args.user.now c.args.number c.args.strict in
    let rows : List Row = c.args.rows.now in
    let q : Row → Bool = λ row. ends p row.items in
    let cut = rows_cut p rows c.requires.some (before_cut c.args.user.now c.args.number c.args.strict (entries_in rows) c.requires.ascending) in
    let point = IsPartitionPoint-from_clause q rows _ c.partition_point.ensures.partitioned (cut_parted q rows cut) (λ a r q k. search rules) in
    point_is q rows c.partition_point.result c.partition_point.ensures.bound point
