use Rattle.bl_store.proofs.CompactLemmas.{compacted_stay_below, done_compactions_install, snapshots_see_the_same}
use Rattle.bl_store.proofs.compacted.compactions_are_installed.Goals as goal

pub returns : goal.returns
returns c =
    let held = c.jobs_may_be_installed.ensures.held in
    let keep = c.compactions_keep.ensures in
    record {
      install = done_compactions_install held keep c.compactions_install.ensures c.tables_are_installed.ensures.edits c.tables_are_installed.ensures.rewrites;
      below = compacted_stay_below held;
      values = snapshots_see_the_same held keep;
    }
