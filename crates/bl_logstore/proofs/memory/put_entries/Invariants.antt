use Rattle.std.proofs.Common.{◌≡◌}
use Rattle.bl_logstore.specs.Replaying.{after_entries}
use Rattle.bl_logstore.specs.Stored.{map_in}
use Rattle.bl_logstore.proofs.memory.put_entries.Given as goal

abbrev pub invariant-loop-entry : goal.invariant-loop-entry
invariant-loop-entry l = map_in l.map.entries ≡ after_entries l.yielded (map_in l.fn.map.entries)
