use Rattle.std.proofs.Common.{sym, subst}
use Rattle.bl_memtab.specs.Rows.{AreRows}
use Rattle.bl_memtab.proofs.RowLemmas.{no_rows}
use Rattle.bl_memtab.proofs.rows.Rows.start.Goals as goal

pub invariant_of-result : goal.invariant_of-result
invariant_of-result c = subst AreRows (sym c.new.ensures.items) no_rows
