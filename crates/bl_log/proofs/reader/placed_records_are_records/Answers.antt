use Rattle.bl_log.specs.Log.{steps}
use Rattle.bl_log.proofs.ReaderLemmas.{placed_are_records}
use Rattle.bl_log.proofs.reader.placed_records_are_records.Goals as goal

pub returns : goal.returns
returns c = λ bytes. placed_are_records 0 (steps bytes)
