-- The folder was only read, and the logs before those that are left were looked at.
use Rattle.std.proofs.Common.{◌≡◌, ◌++◌, List, map, string_bytes}
use Rattle.bl_site.specs.Disk.{folder_of}
use Rattle.bl_site.specs.Quiet.{OnlyReads}
use Rattle.bl_main.specs.Ends.{TellsEach}
use Rattle.bl_main.proofs.logs.early_ends.Given as goal

abbrev pub invariant-loop-name : goal.invariant-loop-name
invariant-loop-name g l = record {
  quiet : OnlyReads g.S.Site l.fn.site l.site;
  sees : g.S.Site.shows → record {
    disk : g.S.Site.disk l.site ≡ g.S.Site.disk l.fn.site;
    told : (done : List _) × ((done ++ l.name-iterator ≡ l.fn.logs.entries) × TellsEach (folder_of (g.S.Site.disk l.fn.site)) (map (λ log. string_bytes log.1) done) l.found.items);
  };
}
