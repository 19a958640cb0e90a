use Rattle.std.proofs.Common.{◌≡◌, ap, arith, length}
use Rattle.bl_code.specs.Reading.{Input}
use Rattle.bl_table.proofs.footer.read_footer.Goals as goal

pub overflow_add-place : goal.overflow_add-place
overflow_add-place c =
    let moves = c.in-Some.ensures.moves in
    let start : c.over-taker.result.place ≡ 0 = ap (λ (i : Input). i.place) c.over-taker.ensures in
    let left : length c.over-taker.result.left ≡ length c.split_at.result.0.now = ap (λ (i : Input). length i.left) c.over-taker.ensures in
    omega (arith, start, left, c.place.ensures, moves.place, moves.within, c.split_at.ensures.front_len)
