use Rattle.std.proofs.Common.{◌≡◌, ◌+◌, ◌≤◌, ◌++◌, length, true, false, cond}
use Rattle.bl_log.specs.Layout.{pieces, spelled}
use Rattle.bl_log.proofs.writer.put_pieces.Given as goal

abbrev pub invariant-pieces : goal.invariant-pieces
invariant-pieces l = record {
  all : l.out.items ++ spelled l.begun (pieces l.room l.rest) ≡ l.fn.out.items ++ spelled false (pieces l.fn.space l.fn.payload);
  room : l.room ≤ 32761;
  whole : l.begun ≡ true → l.room ≡ 32761;
}

-- an empty first piece is followed by no other
abbrev pub decreases-pieces : goal.decreases-pieces
decreases-pieces l = length l.rest + cond l.begun 0 1
