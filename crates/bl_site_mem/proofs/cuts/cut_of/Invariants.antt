use Rattle.std.proofs.Common.{◌≡◌, take, map, string_bytes}
use Rattle.bl_site.specs.Disk.{Name}
use Rattle.bl_site_mem.specs.Record.{start, run, disk_of}
use Rattle.bl_site_mem.specs.Bytes.{entries_of}
use Rattle.bl_site_mem.specs.Moments.{until, disk_left, IsStarted}
use Rattle.bl_site_mem.proofs.cuts.cut_of.Given as goal

abbrev pub invariant-loop-name : goal.invariant-loop-name
invariant-loop-name l = record {
  put : (q : Name) → disk_of l.site q ≡ disk_left l.keep l.fill (run (until l.at (entries_of l.entries)) start).disk (map string_bytes (take l.name-index l.name-items)) q;
  started : IsStarted l.site;
}
