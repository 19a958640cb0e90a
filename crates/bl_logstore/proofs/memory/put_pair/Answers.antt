use Rattle.bl_logstore.proofs.MapLemmas.{one_given}
use Rattle.bl_logstore.proofs.memory.put_pair.Goals as goal

pub returns-clause-put : goal.returns-clause-put
returns-clause-put c = one_given c.args.map.now.entries c.insert.new.self.entries c.args.key c.args.value c.in_ok-insert.ensures.updates.0
