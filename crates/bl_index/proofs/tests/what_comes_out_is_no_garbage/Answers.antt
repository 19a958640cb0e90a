use Rattle.std.proofs.Common.{[], ◌∷◌, arith}
use Rattle.bl_index.specs.Metering.{In, Out}
use Rattle.bl_index.proofs.MeterLemmas.{has_room}
use Rattle.bl_index.proofs.tests.what_comes_out_is_no_garbage.Goals as goal

-- One reference of 36 bytes into file 5 went in.
pub out_flow-requires : goal.out_flow-requires
out_flow-requires g c =
    has_room (In 5 36 ∷ []) _ 5 36 (c.in_ok-in_flow.ensures.ok [] c.start-meter.ensures) (λ _. (omega arith, omega arith))

-- It came out again, and of file 7 nothing did.
pub out_flow-requires-2 : goal.out_flow-requires-2
out_flow-requires-2 g c =
    has_room (In 5 36 ∷ Out 5 36 ∷ []) _ 7 36
    (c.in_ok-out_flow.ensures.ok (In 5 36 ∷ []) (c.in_ok-in_flow.ensures.ok [] c.start-meter.ensures))
    (λ some. absurd (omega arith))
