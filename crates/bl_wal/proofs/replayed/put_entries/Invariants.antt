use Rattle.std.proofs.Common.{◌≡◌, ◌+◌, ◌++◌, length}
use Rattle.bl_entry.specs.Written.{entries_from}
use Rattle.bl_wal.proofs.replayed.put_entries.Given as goal

abbrev pub invariant-loop-operation : goal.invariant-loop-operation
invariant-loop-operation l =
    (l.seq ≡ l.first + length l.yielded) × (l.entries.items ≡ l.fn.entries.items ++ entries_from l.first l.yielded)
