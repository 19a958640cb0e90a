use Rattle.bl_logstore.proofs.MapLemmas.{one_taken}
use Rattle.bl_logstore.proofs.memory.take_key.Goals as goal

pub returns : goal.returns
returns c = one_taken c.args.map.now.entries c.remove.new.self.entries c.args.key.now c.remove.ensures.updates.0
