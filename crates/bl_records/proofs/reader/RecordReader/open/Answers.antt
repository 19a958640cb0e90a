use Rattle.std.proofs.Common.{string_bytes}
use Rattle.bl_records.proofs.FoundLemmas.{begins}
use Rattle.bl_records.proofs.reader.RecordReader.open.Goals as goal

pub returns-clause-begins : goal.returns-clause-begins
returns-clause-begins c = λ file. begins (string_bytes c.args.name) c.start.result file c.start.ensures.open c.start.ensures.reads
