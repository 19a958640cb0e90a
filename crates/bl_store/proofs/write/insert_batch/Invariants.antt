use Rattle.std.proofs.Common.{◌≡◌, ◌+◌, ◌++◌, List, length, take}
use Rattle.bl_entry.specs.Written.{entries_from}
use Rattle.bl_entry.specs.declared.key.Entry.{Entry}
use Rattle.bl_memtab.specs.Filled.{Holds}
use Rattle.bl_store.proofs.write.insert_batch.Given as goal

abbrev pub invariant-loop-operation : goal.invariant-loop-operation
invariant-loop-operation l =
    (l.seq ≡ l.last + l.operation-index)
    × ((written : List Entry) → Holds l.fn.memory written l.last → Holds l.memory (written ++ entries_from (l.last + 1) (take l.operation-index l.operation-items)) (l.last + length (take l.operation-index l.operation-items)))
