-- The folder was only read, and the reader has found some records of the file.
use Rattle.std.proofs.Common.{◌≡◌, ℕ, List}
use Rattle.bl_site.specs.Disk.{folder_of}
use Rattle.bl_site.specs.Quiet.{OnlyReads}
use Rattle.bl_records.specs.FileReading.{HasFound}
use Rattle.bl_main.proofs.logs.end_of.Given as goal

abbrev pub invariant-records : goal.invariant-records
invariant-records g l = record {
  quiet : OnlyReads g.S.Site l.fn.site l.site;
  sees : g.S.Site.shows → record {
    name : l.reader.name ≡ l.name;
    disk : g.S.Site.disk l.site ≡ g.S.Site.disk l.fn.site;
    found : (found : List (List ℕ × ℕ)) × HasFound (folder_of (g.S.Site.disk l.fn.site) l.name) found l.reader;
  };
}
