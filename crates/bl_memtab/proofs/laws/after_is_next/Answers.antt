use Rattle.bl_memtab.proofs.LawLemmas.{after_is_at_the_next_place, after_is_next, first_is_from_least}
use Rattle.bl_memtab.proofs.laws.after_is_next.Goals as goal

pub returns : goal.returns
returns c = record { first = first_is_from_least; next = after_is_next; at = after_is_at_the_next_place }
