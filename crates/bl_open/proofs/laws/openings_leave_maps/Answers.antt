use Rattle.bl_open.proofs.LeavingLemmas.{openings_leave_maps}
use Rattle.bl_open.proofs.laws.openings_leave_maps.Goals as goal

pub returns : goal.returns
returns c = openings_leave_maps c.logs_are_read.ensures c.records_are_batches.ensures.fronts c.batches_join.ensures.counted c.cut_files_read_as_fronts.ensures.fronts c.synced_manifests_are_left.ensures
