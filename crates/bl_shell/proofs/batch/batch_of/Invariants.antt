use Rattle.std.proofs.Common.{◌≡◌, map}
use Rattle.bl_shell.specs.Machine.{operation}
use Rattle.bl_shell.proofs.batch.batch_of.Given as goal

abbrev pub invariant-loop-operation : goal.invariant-loop-operation
invariant-loop-operation l = l.batch ≡ map operation l.yielded
