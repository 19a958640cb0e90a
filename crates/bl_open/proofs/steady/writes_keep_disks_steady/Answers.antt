use Rattle.bl_open.proofs.FrameLemmas.{new_logs_are_quiet, quiet_keeps_steady}
use Rattle.bl_open.proofs.SoundLemmas.{batches_make_maps}
use Rattle.bl_open.proofs.WriteLemmas.{switches_keep_steady, syncs_keep_steady, writes_keep_steady}
use Rattle.bl_open.proofs.steady.writes_keep_disks_steady.Goals as goal

pub returns : goal.returns
returns c =
    let names = c.names_one.ensures in
    let left = c.synced_manifests_are_left.ensures in
    let versions = c.live_parts_have_a_version.ensures in
    let read = c.logs_are_read.ensures in
    let counted = c.batches_join.ensures.counted in
    let sound = batches_make_maps read counted c.operations_change_the_map.ensures in
    record {
      sound = sound;
      writes = writes_keep_steady names left versions read counted c.records_are_batches.ensures.next sound;
      syncs = syncs_keep_steady names left versions read;
      switches = switches_keep_steady (new_logs_are_quiet names left versions) (quiet_keeps_steady read);
    }
