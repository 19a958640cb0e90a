use Rattle.bl_open.proofs.CountLemmas.{draws_for}
use Rattle.bl_open.proofs.flush.flush_memory.Goals as goal

pub returns-clause-draws : goal.returns-clause-draws
returns-clause-draws g c = draws_for c.args.options.now c.args.memory.now c.args.numbers.now c.flush_all-flushed.new.numbers c.in_ok-edit.edit c.in_ok-edit.ensures.edit c.in_ok-edit.ensures.numbers
