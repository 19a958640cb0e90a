use Rattle.bl_memtab.proofs.FilledLemmas.{held_is_the_value}
use Rattle.bl_memtab.proofs.laws.held_is_the_value.Goals as goal

pub returns : goal.returns
returns c = held_is_the_value c.latest_is_the_value.ensures.order c.latest_is_the_value.ensures.value c.entries_are_revisions.ensures
