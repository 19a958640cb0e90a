use Rattle.std.proofs.Common.{◌≡◌}
use Rattle.bl_log.proofs.tests.read_on.Given as goal

abbrev pub invariant-records : goal.invariant-records
invariant-records l = l.reader.closed ≡ l.fn.reader.closed
