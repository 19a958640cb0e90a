use Rattle.std.specs.Prelude.{[]}
use Rattle.std.specs.FinMap.{empty}
use Rattle.bl_logstore.specs.Logs.{records_up_to}
use Rattle.bl_logstore.proofs.BatchLemmas.{change, none_at}
use Rattle.bl_logstore.proofs.laws.batches_make_the_map.Goals as goal

pub returns : goal.returns
returns c = λ folder batches last h. change c.operations_change_the_map.ensures (records_up_to h.top folder) 0 last batches [] empty h.are tt none_at
