use Rattle.bl_open.proofs.FrameLemmas.{steady_hold_written}
use Rattle.bl_open.proofs.CutLemmas.{logs_are_whole, steady_are_settled, steady_hold, steady_stand, steady_stand_first}
use Rattle.bl_open.proofs.steady.steady_disks_stand.Goals as goal

pub returns : goal.returns
returns c =
    let hold = steady_hold c.logs_are_read.ensures c.records_are_batches.ensures.fronts c.batches_join.ensures.counted c.manifests_are_read.ensures in
    record {
      hold = hold;
      written = steady_hold_written c.logs_are_read.ensures c.records_are_batches.ensures.fronts c.batches_join.ensures.counted c.synced_manifests_are_left.ensures;
      first = steady_stand_first hold;
      stand = steady_stand c.logs_are_read.ensures c.batches_join.ensures.counted hold;
      settled = steady_are_settled c.manifests_are_read.ensures;
      whole = logs_are_whole;
    }
