use Rattle.bl_open.proofs.CutLemmas.{cuts_of_steady, synced_are_left}
use Rattle.bl_open.proofs.RestingLemmas.{reads_are_cuts}
use Rattle.bl_open.proofs.steady.steady_disks_are_left.Goals as goal

pub returns : goal.returns
returns c =
    let cuts = cuts_of_steady c.logs_are_read.ensures c.records_are_batches.ensures.fronts c.batches_join.ensures.counted c.cut_logs_read_as_fronts.ensures c.synced_manifests_are_left.ensures in
    record {
      cuts = cuts;
      synced = synced_are_left c.logs_are_read.ensures c.records_are_batches.ensures.fronts c.batches_join.ensures.counted c.synced_logs_are_left.ensures c.synced_manifests_are_left.ensures;
      reads = reads_are_cuts;
    }
