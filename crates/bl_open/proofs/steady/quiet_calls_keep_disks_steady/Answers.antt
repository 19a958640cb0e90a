use Rattle.bl_open.proofs.FrameLemmas.{new_logs_are_quiet, quiet_keeps_steady, renames_are_quiet, unneeded_are_quiet, unneeded_by_name}
use Rattle.bl_open.proofs.steady.quiet_calls_keep_disks_steady.Goals as goal

pub returns : goal.returns
returns c = record {
  keeps = quiet_keeps_steady c.logs_are_read.ensures;
  names = unneeded_by_name c.names_one.ensures c.synced_manifests_are_left.ensures c.live_parts_have_a_version.ensures;
  unneeded = unneeded_are_quiet;
  renames = renames_are_quiet;
  logs = new_logs_are_quiet c.names_one.ensures c.synced_manifests_are_left.ensures c.live_parts_have_a_version.ensures;
}
