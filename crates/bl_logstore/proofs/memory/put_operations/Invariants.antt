use Rattle.std.proofs.Common.{◌≡◌, take}
use Rattle.bl_entry.specs.Revisions.{after_operations}
use Rattle.bl_logstore.specs.Stored.{map_in}
use Rattle.bl_logstore.proofs.memory.put_operations.Given as goal

abbrev pub invariant-loop-operation : goal.invariant-loop-operation
invariant-loop-operation l = map_in l.map.entries ≡ after_operations (take l.operation-index l.operation-items) (map_in l.fn.map.entries)
