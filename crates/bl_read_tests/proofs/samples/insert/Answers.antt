use Rattle.std.proofs.Common.{sym, subst}
use Rattle.bl_entry.specs.Entries.{EntriesUpTo}
use Rattle.bl_read_tests.proofs.Filling.{fills}
use Rattle.bl_read_tests.proofs.samples.insert.Goals as goal

pub returns : goal.returns
returns c = subst (EntriesUpTo c.args.entry.key.seq) (sym c.in_ok-insert.ensures.ok) (fills c.args.last c.args.entry c.args.memory.now c.requires.filled c.requires.later)
