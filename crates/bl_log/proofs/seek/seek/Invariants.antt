use Rattle.std.proofs.Common.{◌≡◌, ◌≤◌, ◌-◌, false, [], length, take}
use Rattle.bl_log.specs.Judge.{Reaches}
use Rattle.bl_log.proofs.seek.seek.Given as goal

abbrev pub invariant-fragments : goal.invariant-fragments
invariant-fragments l = record {
  within : l.at.read ≤ length l.held;
  fresh : l.at.begun ≡ false → l.half.items ≡ [];
  reaches : Reaches l.held l.fn.at l.fn.half.items l.at l.half.items [];
  longer : length l.fn.half.items ≤ length l.half.items;
  front : take (length l.fn.half.items) l.half.items ≡ l.fn.half.items;
}

abbrev pub decreases-fragments : goal.decreases-fragments
decreases-fragments l = length l.held - l.at.read
