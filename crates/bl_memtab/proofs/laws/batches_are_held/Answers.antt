use Rattle.bl_memtab.proofs.BatchLemmas.{batches_are_held}
use Rattle.bl_memtab.proofs.FilledLemmas.{none_is_held, one_more_is_held, operations_are_held}
use Rattle.bl_memtab.proofs.laws.batches_are_held.Goals as goal

pub returns : goal.returns
returns c = record {
  none = none_is_held;
  one = one_more_is_held c.keys_are_read.ensures.differ;
  operations = operations_are_held c.keys_are_read.ensures.differ;
  batches = batches_are_held c.keys_are_read.ensures.differ;
}
