use Rattle.bl_out.proofs.SpansLemmas.{spans_none}
use Rattle.bl_out.proofs.table.TableInHand.start.Goals as goal

pub returns-clause-spans : goal.returns-clause-spans
returns-clause-spans c = spans_none c.args.number c.start.result c.start.ensures
