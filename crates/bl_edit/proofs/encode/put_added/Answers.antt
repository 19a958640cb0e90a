use Rattle.std.proofs.Common.{◌<◌, ◌^◌}
use Rattle.std.specs.Prelude.{IsTrue}
use Rattle.bl_edit.specs.Bounds.{table_fits}
use Rattle.bl_edit.specs.declared.edit.NewTable.{NewTable}
use Rattle.bl_edit.specs.Spelling.{table_bytes}
use Rattle.bl_edit.proofs.Appending.{each_at, more_bytes, more_all}
use Rattle.bl_edit.proofs.encode.put_added.Goals as goal

pub put_table-requires : goal.put_table-requires
put_table-requires c =
    rw c.table-item.is (each_at (λ (t : NewTable). IsTrue (table_fits t)) c.args.added.now c.loop-table.table-index c.table-item.result c.requires c.loop-table-test.true)

pub loop-table-preserved : goal.loop-table-preserved
loop-table-preserved c = record {
  bytes = more_bytes table_bytes c.args.added.now c.loop-table.table-index c.table-item.result c.table-item.result c.args.to.now.items c.loop-table.to.items c.put_table.new.to.items c.loop-table-test.true c.table-item.is c.loop-table.invariant.bytes
      c.in_ok-put_table.ensures.bytes;
  small = more_all (λ (t : NewTable). t.size < 2 ^ 64) c.args.added.now c.loop-table.table-index c.table-item.result c.table-item.result c.loop-table-test.true c.table-item.is c.loop-table.invariant.small
      c.in_ok-put_table.ensures.size;
}
