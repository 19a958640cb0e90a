use Rattle.bl_cache.proofs.EntryLemmas.{IsDecoded}
use Rattle.bl_cache.proofs.entries.proper_entries.Given as goal

abbrev pub invariant-loop-item : goal.invariant-loop-item
invariant-loop-item l =
    (goal.iterator-loop-item).can_next l.item-iterator ×
    (goal.iterator-loop-item).is_finite l.item-iterator ×
    IsDecoded l.yielded l.entries.items
