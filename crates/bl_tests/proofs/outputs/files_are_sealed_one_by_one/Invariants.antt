use Rattle.bl_site_mem.specs.Record.{disk_of}
use Rattle.bl_tests.specs.Writing.{CanSeal}
use Rattle.bl_tests.proofs.outputs.files_are_sealed_one_by_one.Given as goal

abbrev pub invariant-answers : goal.invariant-answers
invariant-answers g l = CanSeal (disk_of l.site) l.output
