use Rattle.std.proofs.Common.{◌∙◌, sym}
use Rattle.bl_memtab.proofs.TestLemmas.{free_from_none, free_from_other, other_key}
use Rattle.bl_memtab.proofs.tests.has_key.Goals as goal

pub returns-in-Some : goal.returns-in-Some
returns-in-Some c = λ e.
    free_from_other c.args.key.now c.args.table.now c.in-Some.found.now c.ascends.ensures.ascending (sym c.in-Some.ensures) (other_key c.in-Some.found.now.key c.args.key.now (sym c.eq.ensures ∙ e))

pub returns-in-None : goal.returns-in-None
returns-in-None c = λ _. free_from_none c.args.key.now c.args.table.now (sym c.in-None.ensures)
