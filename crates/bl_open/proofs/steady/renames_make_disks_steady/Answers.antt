use Rattle.bl_open.proofs.SyncLemmas.{syncs_keep_settled, syncs_sync}
use Rattle.bl_open.proofs.InstallLemmas.{ready_is_version, renames_make_steady, temps_keep_ready}
use Rattle.bl_open.proofs.RestingLemmas.{cuts_of_rest, cuts_of_resting, new_logs_keep_rest, quiet_keeps_rest, settled_rest, spares_keep_rest, temps_keep_rest}
use Rattle.bl_open.proofs.steady.renames_make_disks_steady.Goals as goal

pub returns : goal.returns
returns c =
    let names = c.names_one.ensures in
    let read = c.logs_are_read.ensures in
    let versions = c.live_parts_have_a_version.ensures in
    let frame = c.other_files_do_not_matter.ensures.frame in
    let version = ready_is_version names c.synced_manifests_are_left.ensures versions in
    let rest = quiet_keeps_rest frame in
    let fresh = c.fresh_folders_stand_for_the_empty_map.ensures.stays in
    let spares = spares_keep_rest names versions rest fresh in
    let before = cuts_of_rest c.folders_stand_for_one_map.ensures.live c.synced_disks_keep_their_map.ensures.cuts in
    record {
      rest = rest;
      before = before;
      resting = cuts_of_resting before;
      syncs = syncs_sync;
      kept = syncs_keep_settled;
      settled = settled_rest;
      spares = spares;
      logs = new_logs_keep_rest names versions rest fresh;
      temps = temps_keep_rest spares;
      ready = temps_keep_ready names read version;
      after = renames_make_steady names read version;
    }
