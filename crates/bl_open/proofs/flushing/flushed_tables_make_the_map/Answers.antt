use Rattle.bl_open.proofs.FlushedFiles.{flushed_are_below, flushed_have_tables, job_edits_apply, snapshots_restore}
use Rattle.bl_open.proofs.flushing.flushed_tables_make_the_map.Goals as goal

pub returns : goal.returns
returns c =
    let reads = c.index_is_read_again.ensures in
    let spells = c.blob_indexes_are_unique.ensures.spelled in
    record {
      tables = flushed_have_tables c.names_one.ensures reads spells c.flushed_folders_stand.ensures.there c.flushes_keep_maps.ensures.files c.flushes_keep_maps.ensures.fronts;
      applies = job_edits_apply c.flushes_keep_maps.ensures.apply;
      below = flushed_are_below reads spells c.flushes_keep_maps.ensures.files;
      snapshots = snapshots_restore;
    }
