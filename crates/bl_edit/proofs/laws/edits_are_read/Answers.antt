use Rattle.bl_edit.proofs.InBounds.{reads_in_bounds}
use Rattle.bl_edit.proofs.Written.{reads_written}
use Rattle.bl_edit.proofs.laws.edits_are_read.Goals as goal

pub returns : goal.returns
returns c = record { written = reads_written; bounds = reads_in_bounds }
