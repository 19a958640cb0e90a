use Rattle.bl_folder.proofs.FlushedLemmas.{flushes_apply, flushes_keep_files, flushes_keep_fronts, flushes_keep_maps}
use Rattle.bl_folder.proofs.flushes.flushes_keep_maps.Goals as goal

pub returns : goal.returns
returns c = record {
  apply = flushes_apply c.index_is_read_again.ensures c.blob_indexes_are_unique.ensures.spelled;
  files = flushes_keep_files c.index_is_read_again.ensures c.blob_indexes_are_unique.ensures.spelled;
  maps = flushes_keep_maps c.index_is_read_again.ensures c.blob_indexes_are_unique.ensures.spelled c.kept_tell_the_same.ensures.all;
  fronts = flushes_keep_fronts c.index_is_read_again.ensures c.blob_indexes_are_unique.ensures.spelled c.kept_tell_the_same.ensures.all;
}
