use Rattle.bl_site_mem.specs.Record.{disk_of}
use Rattle.bl_tests.proofs.Writing.{begins}
use Rattle.bl_tests.proofs.outputs.begin.Goals as goal

pub returns : goal.returns
returns c = begins (disk_of c.args.site.now) c.args.options.now c.args.one_table c.begin.result c.begin.ensures.begun c.begin.ensures.usable
