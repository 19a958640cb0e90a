use Rattle.bl_table.proofs.MoveLemmas.{moves_then, varint32_moves}
use Rattle.bl_table.proofs.entry.take_lengths.Goals as goal

pub returns-clause-moves : goal.returns-clause-moves
returns-clause-moves c =
    moves_then 2 1 _ _ _ (moves_then 1 1 _ _ _ (varint32_moves _ _ _ c.in_ok-shared.ensures) (varint32_moves _ _ _ c.in_ok-unshared.ensures)) (varint32_moves _ _ _ c.in_ok-value.ensures)
