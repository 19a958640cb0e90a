use Rattle.bl_index.proofs.MeterLemmas.{has_room}
use Rattle.bl_index.proofs.meter.flows_give_room.Goals as goal

pub returns : goal.returns
returns c = has_room
