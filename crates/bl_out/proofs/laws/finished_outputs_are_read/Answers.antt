use Rattle.bl_out.proofs.Reading.{outputs_are_read, outputs_fit}
use Rattle.bl_out.proofs.laws.finished_outputs_are_read.Goals as goal

pub returns : goal.returns
returns c = record {
  read = outputs_are_read c.index_is_read_again.ensures c.blob_indexes_are_unique.ensures.spelled c.keys_are_read.ensures.order c.tables_are_read_again.ensures;
  fit = outputs_fit c.index_is_read_again.ensures c.blob_indexes_are_unique.ensures.spelled;
}
