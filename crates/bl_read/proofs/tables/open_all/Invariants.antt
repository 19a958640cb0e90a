use Rattle.std.proofs.Common.{take}
use Rattle.std.specs.Prelude.{map}
use Rattle.std.specs.List.{AllByRecursion, AllZip}
use Rattle.bl_site.specs.Disk.{folder_of}
use Rattle.bl_site.specs.Quiet.{OnlyReads}
use Rattle.bl_cache.specs.Runs.{Keeps, entries_in}
use Rattle.bl_read.specs.Reading.{IsReadAs}
use Rattle.bl_read.proofs.tables.open_all.Given as goal

abbrev pub invariant-loop-table : goal.invariant-loop-table
invariant-loop-table g l =
    let site = g.S.Site in
    record {
      read : site.shows → AllZip (IsReadAs (folder_of (site.disk l.fn.site))) (take l.table-index l.tables) (map (λ r. entries_in r (folder_of (site.disk l.fn.site))) l.runs.items);
      keeps : site.shows → AllByRecursion (λ r. Keeps r (folder_of (site.disk l.fn.site))) l.runs.items;
      quiet : OnlyReads site l.fn.site l.site;
    }
