use Rattle.std.proofs.Common.{◌≡◌, length, drop}
use Rattle.bl_code.specs.Crc.{crc_after}
use Rattle.bl_code.proofs.crc.after_bytes.Given as goal

abbrev pub invariant-loop-rest : goal.invariant-loop-rest
invariant-loop-rest l = crc_after l.now l.rest ≡ crc_after l.state l.bytes

abbrev pub decreases-loop-rest : goal.decreases-loop-rest
decreases-loop-rest l = length l.rest

abbrev pub invariant-loop-byte : goal.invariant-loop-byte
invariant-loop-byte l = crc_after l.now (drop l.byte-index l.byte-items) ≡ crc_after l.state l.bytes
