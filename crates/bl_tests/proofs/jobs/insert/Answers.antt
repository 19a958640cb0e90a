use Rattle.std.proofs.Common.{sym, subst}
use Rattle.bl_tests.specs.Filling.{IsFilled}
use Rattle.bl_tests.proofs.Filling.{fills}
use Rattle.bl_tests.proofs.jobs.insert.Goals as goal

pub returns : goal.returns
returns c = subst (IsFilled c.args.entry.key.seq) (sym c.in_ok-insert.ensures.ok) (fills c.args.last c.args.entry c.args.memory.now c.requires.filled c.requires.later c.requires.written)
