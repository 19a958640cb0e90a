use Rattle.std.proofs.Common.{◌≡◌, ℕ, ◌+◌, ◌-◌, ◌^◌, ◌<◌, ◌≤◌, length, drop}
use Rattle.bl_code.specs.Reading.{varint_in}
use Rattle.bl_code.proofs.TakeLemmas.{behind}
use Rattle.bl_code.proofs.varint.leading_varint.Given as goal

abbrev pub invariant-loop-i : goal.invariant-loop-i
invariant-loop-i l = record {
  within : l.i ≤ length l.bytes;
  scale : l.scale ≡ 128 ^ l.i;
  small : l.value < 128 ^ l.i;
  reads : (place : ℕ) → varint_in l.most place l.bytes ≡ behind l.value l.scale (varint_in (l.most - l.i) (place + l.i) (drop l.i l.bytes));
}
