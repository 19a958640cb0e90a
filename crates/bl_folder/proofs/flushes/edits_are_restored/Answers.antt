use Rattle.bl_folder.proofs.RestoreLemmas.{flushes_restore, one_edit_more}
use Rattle.bl_folder.proofs.flushes.edits_are_restored.Goals as goal

pub returns : goal.returns
returns c = record {
  more = one_edit_more;
  flushes = flushes_restore c.index_is_read_again.ensures c.blob_indexes_are_unique.ensures.spelled c.edits_are_read.ensures.written;
}
