use Rattle.bl_entry.specs.Entries.{EntriesUpTo}
use Rattle.bl_read_tests.proofs.samples.memory_of.Given as goal

abbrev pub invariant-writes : goal.invariant-writes
invariant-writes l = EntriesUpTo l.last l.memory
