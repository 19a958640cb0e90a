use Rattle.bl_table.proofs.SpellLemmas.{common_ends}
use Rattle.bl_table.proofs.spell.common_prefix.Goals as goal

pub returns-else-n-b-clause-same : goal.returns-else-n-b-clause-same
returns-else-n-b-clause-same c = common_ends c.args.a.now c.args.b.now c.bytes.n c.bytes.invariant.same c.if-n-b.false
