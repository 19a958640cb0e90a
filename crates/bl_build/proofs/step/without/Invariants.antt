use Rattle.std.proofs.Common.{◌≡◌}
use Rattle.bl_build.specs.Versions.{without}
use Rattle.bl_build.proofs.step.without.Given as goal

abbrev pub invariant-loop-table : goal.invariant-loop-table
invariant-loop-table l = l.left.items ≡ without l.deleted l.yielded
