use Rattle.std.proofs.Common.{◌≡◌, ◌+◌, ◌-◌, ◌≤◌, length, drop}
use Rattle.bl_table.specs.Spelling.{common}
use Rattle.bl_table.proofs.spell.common_prefix.Given as goal

abbrev pub invariant-bytes : goal.invariant-bytes
invariant-bytes l = record {
  first : l.n ≤ length l.a;
  second : l.n ≤ length l.b;
  same : common l.a l.b ≡ l.n + common (drop l.n l.a) (drop l.n l.b);
}

abbrev pub decreases-bytes : goal.decreases-bytes
decreases-bytes l = length l.a - l.n
