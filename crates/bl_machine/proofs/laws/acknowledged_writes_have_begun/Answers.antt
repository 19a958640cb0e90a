use Rattle.bl_machine.proofs.SyncedLemmas.{synced_have_begun, begun_are_written, more_told, all_are_told}
use Rattle.bl_machine.proofs.laws.acknowledged_writes_have_begun.Goals as goal

pub returns : goal.returns
returns c = record { synced = synced_have_begun; begun = begun_are_written; more = more_told; all = all_are_told }
