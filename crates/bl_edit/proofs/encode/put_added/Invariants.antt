use Rattle.std.proofs.Common.{◌≡◌, ◌<◌, ◌^◌, ◌++◌, take}
use Rattle.std.specs.Prelude.{flat_map}
use Rattle.std.specs.List.{AllByRecursion}
use Rattle.bl_edit.specs.declared.edit.NewTable.{NewTable}
use Rattle.bl_edit.specs.Spelling.{table_bytes}
use Rattle.bl_edit.proofs.encode.put_added.Given as goal

abbrev pub invariant-loop-table : goal.invariant-loop-table
invariant-loop-table l = record {
  bytes : l.to.items ≡ l.fn.to.items ++ flat_map table_bytes (take l.table-index l.added);
  small : AllByRecursion (λ (t : NewTable). t.size < 2 ^ 64) (take l.table-index l.added);
}
