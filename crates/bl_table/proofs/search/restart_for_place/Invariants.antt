use Rattle.std.proofs.Common.{◌≡◌, ◌+◌, ◌-◌, ◌<◌, ◌≤◌, ℕ, take, None}
use Rattle.bl_table.specs.Blocks.{contents, next_after}
use Rattle.bl_table.specs.Searching.{Begins}
use Rattle.bl_table.proofs.search.restart_for_place.Given as goal

abbrev pub invariant-restarts : goal.invariant-restarts
invariant-restarts l = record {
  order : l.low ≤ l.high;
  within : l.high < l.count;
  begins : (offset : ℕ) → (contents offset l.bytes l.limit l.count).fault ≡ None → Begins (next_after (offset + l.at)) offset (take l.limit l.bytes) l.place;
}

abbrev pub decreases-restarts : goal.decreases-restarts
decreases-restarts l = l.high - l.low
