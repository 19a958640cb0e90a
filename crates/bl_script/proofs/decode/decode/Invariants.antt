use Rattle.std.proofs.Common.{◌≡◌, ◌++◌, length}
use Rattle.percent_encoding.specs.Percent.{percent_decode}
use Rattle.bl_script.proofs.decode.decode.Given as goal

-- the bytes so far, and those of the rest
abbrev pub invariant-escapes : goal.invariant-escapes
invariant-escapes l = percent_decode l.word ≡ l.bytes.items ++ percent_decode l.rest

abbrev pub decreases-escapes : goal.decreases-escapes
decreases-escapes l = length l.rest
