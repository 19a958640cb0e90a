use Rattle.bl_build.proofs.Levels.{levels_rise}
use Rattle.bl_build.proofs.version.Version.tables.Goals as goal

pub level_of-requires : goal.level_of-requires
level_of-requires c = rw c.as_slice.ensures.value (levels_rise c.self.inside.tables.items c.self.invariant.tables_fit c.self.invariant.tables_ascend)
