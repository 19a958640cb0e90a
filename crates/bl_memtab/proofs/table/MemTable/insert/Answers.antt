use Rattle.std.proofs.Common.{sym, subst}
use Rattle.bl_memtab.specs.Tables.{IsFree}
use Rattle.bl_memtab.proofs.PutLemmas.{counted_more}
use Rattle.bl_memtab.proofs.table.MemTable.insert.Goals as goal

pub invariant_of-self-2 : goal.invariant_of-self-2
invariant_of-self-2 c =
    let free = subst (IsFree c.args.entry.key) (sym c.self.view_is) c.requires in
    let more = counted_more c.keys_are_read.ensures.differ c.args.entry c.self.inside.rows c.self.inside.count c.self.inside.bytes c.show_order.ensures free c.with_size.ensures.key c.self.invariant in
    rw (c.in_ok-insert.ensures.ok, c.in-Some.ensures.1, c.in-Some-with_size.ensures.total) more
