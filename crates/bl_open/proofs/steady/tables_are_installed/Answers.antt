use Rattle.bl_open.proofs.FollowLemmas.{beginnings_are_backed, flushes_install, fronts_of, rewrites_install, steps_of}
use Rattle.bl_open.proofs.StayLemmas.{backed_stay, files_stay}
use Rattle.bl_open.proofs.RestoreLemmas.{edits_restore}
use Rattle.bl_open.proofs.steady.tables_are_installed.Goals as goal

pub returns : goal.returns
returns c =
    let join = c.batches_join.ensures.join in
    let counted = c.batches_join.ensures.counted in
    let fronts = c.records_are_batches.ensures.fronts in
    let change = c.operations_change_the_map.ensures in
    let read = c.logs_are_read.ensures in
    record {
      edits = edits_restore;
      steps = steps_of join counted fronts change read;
      fronts = fronts_of join counted fronts change read;
      files = files_stay c.names_one.ensures;
      backed = backed_stay c.names_one.ensures read;
      flushes = flushes_install join counted fronts change read;
      rewrites = rewrites_install join counted fronts change read;
      beginnings = beginnings_are_backed;
    }
