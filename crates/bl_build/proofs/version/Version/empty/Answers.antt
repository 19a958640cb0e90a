use Rattle.bl_build.proofs.Stepping.{nothing_is_version}
use Rattle.bl_build.proofs.version.Version.empty.Goals as goal

pub invariant_of-result : goal.invariant_of-result
invariant_of-result c = rw (c.new.ensures.items, c.new-2.ensures.items) nothing_is_version
