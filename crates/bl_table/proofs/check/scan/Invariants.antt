use Rattle.std.proofs.Common.{◌≡◌, ◌+◌, ◌≤◌, ◌<◌, length}
use Rattle.bl_table.proofs.ScanLemmas.{Scanning}
use Rattle.bl_table.proofs.check.scan.Given as goal

abbrev pub invariant-entries : goal.invariant-entries
invariant-entries l = record {
  total : l.taker.place + length l.taker.left ≡ l.limit;
  passed : l.passed ≤ l.count;
  long : 0 < l.taker.place → 9 ≤ length l.before.items;
  scanning : Scanning l.offset l.limit l.count l.bytes l.taker l.before.items l.passed;
}

abbrev pub decreases-entries : goal.decreases-entries
decreases-entries l = length l.taker.left
