use Rattle.bl_tests.specs.Filling.{IsFilled}
use Rattle.bl_tests.proofs.flushes.memory_of_twenty.Given as goal

abbrev pub invariant-entries : goal.invariant-entries
invariant-entries l = IsFilled l.i l.memory
