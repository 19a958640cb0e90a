use Rattle.bl_table.proofs.MoveLemmas.{moves_then, varint64_moves}
use Rattle.bl_table.proofs.footer.take_handle.Goals as goal

pub returns-clause-moves : goal.returns-clause-moves
returns-clause-moves c = moves_then 1 1 _ _ _ (varint64_moves _ _ _ c.in_ok-offset.ensures) (varint64_moves _ _ _ c.in_ok-size.ensures)
