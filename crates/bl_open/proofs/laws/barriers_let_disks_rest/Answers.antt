use Rattle.bl_open.proofs.FoundLemmas.{cuts_of, fresh_rests, new_files_stay, new_numbers_are_spare, rests_are_settled, rests_of, settled_rest_as, spares_cut, spares_stay, spares_touched}
use Rattle.bl_open.proofs.laws.barriers_let_disks_rest.Goals as goal

pub returns : goal.returns
returns c =
    let names = c.names_one.ensures in
    let one = c.folders_stand_for_one_map.ensures.live in
    let laws = c.renames_make_disks_steady.ensures in
    record {
      settled = settled_rest_as one laws.settled;
      fresh = fresh_rests;
      rests = rests_of;
      spares = spares_stay names one laws.spares;
      touched = spares_touched names c.live_parts_have_a_version.ensures laws.rest;
      files = new_files_stay names one laws.spares laws.logs;
      left = spares_cut names one c.live_parts_have_a_version.ensures c.other_files_do_not_matter.ensures.frame c.synced_disks_keep_their_map.ensures.cuts c.quiet_cuts_keep_needed.ensures.cuts c.quiet_cuts_keep_needed.ensures.keep;
      cuts = cuts_of laws.before;
      stay_settled = rests_are_settled c.synced_disks_keep_their_map.ensures.settled;
      numbers = new_numbers_are_spare;
    }
