use Rattle.std.proofs.Common.{take}
use Rattle.bl_open.proofs.ListingLemmas.{GreatestOf}
use Rattle.bl_open.proofs.names.greatest_number.Given as goal

abbrev pub invariant-loop-name : goal.invariant-loop-name
invariant-loop-name l = GreatestOf (take l.name-index l.files) l.greatest
