use Rattle.bl_table.proofs.TableAgainLemmas.{reads_built}
use Rattle.bl_table.proofs.laws.tables_are_read_again.Goals as goal

pub returns : goal.returns
returns c = reads_built
