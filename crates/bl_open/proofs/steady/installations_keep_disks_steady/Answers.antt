use Rattle.bl_open.proofs.InstallLemmas.{cuts_of_installing, installs_keep_counts, installs_keep_steady}
use Rattle.bl_open.proofs.SettleLemmas.{torn_installs_are_settled}
use Rattle.bl_open.proofs.steady.installations_keep_disks_steady.Goals as goal

pub returns : goal.returns
returns c =
    let names = c.names_one.ensures in
    let left = c.synced_manifests_are_left.ensures in
    let versions = c.live_parts_have_a_version.ensures in
    let read = c.logs_are_read.ensures in
    record {
      cuts = cuts_of_installing names read c.records_are_batches.ensures.fronts c.batches_join.ensures.counted c.cut_logs_read_as_fronts.ensures c.cut_manifests_read_as_fronts.ensures.during left versions;
      settled = torn_installs_are_settled names c.cut_manifests_read_as_fronts.ensures.during versions;
      counts = installs_keep_counts;
      keeps = installs_keep_steady names read left versions;
    }
