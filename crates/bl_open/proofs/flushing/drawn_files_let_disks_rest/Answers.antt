use Rattle.bl_open.proofs.DrawnLemmas.{cuts_beside_rest, drawn_are_unneeded, others_keep_rest}
use Rattle.bl_open.proofs.flushing.drawn_files_let_disks_rest.Goals as goal

pub returns : goal.returns
returns c = record {
  unneeded = drawn_are_unneeded c.names_one.ensures c.live_parts_have_a_version.ensures;
  rest = others_keep_rest c.names_one.ensures c.live_parts_have_a_version.ensures c.other_files_do_not_matter.ensures.frame;
  cuts = cuts_beside_rest c.names_one.ensures c.folders_stand_for_one_map.ensures.live c.live_parts_have_a_version.ensures c.other_files_do_not_matter.ensures.frame c.quiet_cuts_keep_needed.ensures.cuts c.quiet_cuts_keep_needed.ensures.keep c.synced_disks_keep_their_map.ensures.cuts;
}
