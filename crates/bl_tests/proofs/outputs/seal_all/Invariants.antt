use Rattle.bl_site_mem.specs.Record.{disk_of}
use Rattle.bl_tests.specs.Writing.{CanSeal}
use Rattle.bl_tests.proofs.outputs.seal_all.Given as goal

abbrev pub invariant-files : goal.invariant-files
invariant-files l = CanSeal (disk_of l.site) l.output
