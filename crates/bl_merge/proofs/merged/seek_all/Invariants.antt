use Rattle.std.proofs.Common.{◌<◌}
use Rattle.std.specs.List.{AllByRecursion, AllZip}
use Rattle.std.specs.BinaryHeap.{heap_items}
use Rattle.bl_site.specs.Disk.{folder_of}
use Rattle.bl_site.specs.Quiet.{OnlyReads}
use Rattle.bl_entry.specs.Runs.{KeepsRun}
use Rattle.bl_merge.specs.Heads.{AllNumbered, AreHeads, IsSought}
use Rattle.bl_merge.proofs.merged.seek_all.Given as goal

abbrev pub invariant-runs : goal.invariant-runs
invariant-runs g l =
    let run = g.R.Run in
    let site = g.S.Site in
    record {
      heads : AreHeads run.admits (heap_items l.heads);
      numbers : AllByRecursion (λ h. h.run < l.at) (heap_items l.heads);
      same : AllZip (KeepsRun run.entries run.reads run.is_outside) l.fn.runs.items l.runs.items;
      kept : site.shows → AllByRecursion (λ r. run.keeps r (folder_of (site.disk l.fn.site))) l.fn.runs.items → AllByRecursion (λ r. run.keeps r (folder_of (site.disk l.fn.site))) l.runs.items;
      sought : site.shows → AllByRecursion (λ r. run.keeps r (folder_of (site.disk l.fn.site))) l.fn.runs.items
          → AllNumbered (λ k r. k < l.at → IsSought run.entries run.place (folder_of (site.disk l.fn.site)) l.from (heap_items l.heads) k r) 0 l.runs.items;
      quiet : OnlyReads site l.fn.site l.site;
    }
