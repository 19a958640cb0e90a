use Rattle.std.proofs.Common.{◌≡◌, ◌++◌, take}
use Rattle.std.specs.Prelude.{flat_map}
use Rattle.bl_edit.specs.Spelling.{deleted_bytes}
use Rattle.bl_edit.proofs.encode.put_deleted.Given as goal

abbrev pub invariant-loop-table : goal.invariant-loop-table
invariant-loop-table l = l.to.items ≡ l.fn.to.items ++ flat_map deleted_bytes (take l.table-index l.deleted)
