use Rattle.bl_promise.proofs.RefutedLemmas.{counts_row, empty_row, error_lines_row, read_row}
use Rattle.bl_promise.proofs.refuted.rows_are_these.Goals as goal

pub returns : goal.returns
returns c = record { empty = empty_row; read = read_row c.scripts_tell_the_rows.ensures.read; counts = counts_row; lines = error_lines_row }
