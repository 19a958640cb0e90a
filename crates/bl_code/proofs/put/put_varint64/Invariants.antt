use Rattle.std.proofs.Common.{◌≡◌, ◌≤◌, ◌*◌, ◌^◌, ◌-◌, ◌++◌, take, length}
use Rattle.bl_code.specs.Numbers.{varint}
use Rattle.bl_code.proofs.put.put_varint64.Given as goal

abbrev pub invariant-loop-rest : goal.invariant-loop-rest
invariant-loop-rest l = record {
  size : length l.bytes ≡ 10;
  room : l.used ≤ 9;
  fits : l.rest * 128 ^ l.used ≤ l.value;
  spelled : take l.used l.bytes ++ varint (10 - l.used) l.rest ≡ varint 10 l.value;
}

abbrev pub decreases-loop-rest : goal.decreases-loop-rest
decreases-loop-rest l = l.rest
