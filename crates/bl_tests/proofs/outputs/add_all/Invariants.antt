use Rattle.bl_site_mem.specs.Record.{disk_of}
use Rattle.bl_tests.specs.Writing.{CanAdd}
use Rattle.bl_tests.proofs.outputs.add_all.Given as goal

abbrev pub invariant-entries : goal.invariant-entries
invariant-entries l = CanAdd (disk_of l.site) l.output
