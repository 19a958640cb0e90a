use Rattle.bl_folder.proofs.FlushedLemmas.{flushed_are_there, flushes_are_held, flushes_stand, flushes_stand_first}
use Rattle.bl_folder.proofs.flushes.flushed_folders_stand.Goals as goal

pub returns : goal.returns
returns c = record {
  there = flushed_are_there c.index_is_read_again.ensures c.blob_indexes_are_unique.ensures.spelled;
  held = flushes_are_held c.index_is_read_again.ensures c.blob_indexes_are_unique.ensures.spelled c.live_parts_have_a_version.ensures c.batches_join.ensures.counted;
  stand = flushes_stand c.index_is_read_again.ensures c.blob_indexes_are_unique.ensures.spelled c.kept_tell_the_same.ensures.all c.live_parts_have_a_version.ensures c.batches_join.ensures.counted;
  first = flushes_stand_first c.index_is_read_again.ensures c.blob_indexes_are_unique.ensures.spelled c.kept_tell_the_same.ensures.all c.live_parts_have_a_version.ensures c.batches_join.ensures.counted;
}
