use Rattle.std.proofs.Common.{◌-◌, ◌<◌, ◌≤◌}
use Rattle.bl_table.specs.Blocks.{first_from}
use Rattle.bl_table.specs.Searching.{BeginsAt}
use Rattle.bl_table.proofs.search.restart_for_key.Given as goal

abbrev pub invariant-restarts : goal.invariant-restarts
invariant-restarts l = record {
  order : l.low ≤ l.high;
  within : l.high < l.count;
  begins : BeginsAt (first_from l.from) l.bytes l.limit l.count l.place;
}

abbrev pub decreases-restarts : goal.decreases-restarts
decreases-restarts l = l.high - l.low
