use Rattle.bl_code.proofs.CrcLemmas.{tables_are}
use Rattle.bl_code.proofs.table.passed.Goals as goal

pub returns : goal.returns
returns c = rw c.from.ensures (tables_are c.args.behind c.args.byte _ _ c.requires c.ranges.byte.fits)
