use Rattle.bl_store.proofs.FinishLemmas.{durable_left, durable_synced}
use Rattle.bl_store.proofs.finish.durable_stores_are_left.Goals as goal

pub returns-clause-synced : goal.returns-clause-synced
returns-clause-synced c = durable_synced

pub returns-clause-left : goal.returns-clause-left
returns-clause-left c = durable_left c.steady_disks_are_left.ensures.synced
