use Rattle.std.proofs.Common.{◌≡◌, ◌++◌, take, drop}
use Rattle.bl_site_mem.specs.Record.{start, run}
use Rattle.bl_site_mem.specs.Bytes.{entries_of}
use Rattle.bl_site_mem.specs.Kept.{IsKept}
use Rattle.bl_site_mem.specs.Moments.{until}
use Rattle.bl_site_mem.proofs.cuts.files_at.Given as goal

abbrev pub invariant-loop-entry : goal.invariant-loop-entry
invariant-loop-entry l = record {
  kept : IsKept l.files (run (take l.entry-index (entries_of l.entries)) start).disk;
  same : until l.at (entries_of l.entries) ≡ take l.entry-index (entries_of l.entries) ++ until l.left (drop l.entry-index (entries_of l.entries));
}
