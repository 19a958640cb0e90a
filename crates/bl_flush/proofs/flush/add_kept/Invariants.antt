use Rattle.std.specs.Option.{option_copied}
use Rattle.bl_flush.proofs.TakenLemmas.{TakenTo}
use Rattle.bl_flush.proofs.flush.add_kept.Given as goal

-- so many entries of the memory are taken, and what is kept of them is added
abbrev pub invariant-entries : goal.invariant-entries
invariant-entries g l = TakenTo g.S.Site l.fn.options l.fn.snapshots l.fn.numbers l.numbers l.memory (option_copied l.front) (option_copied l.next) l.output l.fn.site l.site l.counter
