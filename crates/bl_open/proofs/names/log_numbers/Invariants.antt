use Rattle.std.proofs.Common.{take}
use Rattle.bl_open.proofs.ListingLemmas.{LogsOf}
use Rattle.bl_open.proofs.names.log_numbers.Given as goal

abbrev pub invariant-loop-name : goal.invariant-loop-name
invariant-loop-name l = LogsOf (take l.name-index l.files) l.numbers.keys
