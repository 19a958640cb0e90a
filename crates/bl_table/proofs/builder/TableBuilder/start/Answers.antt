use Rattle.bl_table.proofs.BuildLemmas.{starts}
use Rattle.bl_table.proofs.builder.TableBuilder.start.Goals as goal

pub returns : goal.returns
returns c = starts _ _ c.start.ensures c.start-2.ensures
