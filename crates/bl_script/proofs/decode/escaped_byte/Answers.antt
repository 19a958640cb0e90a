use Rattle.std.proofs.Common.{◌≡◌, ◌+◌, ◌*◌, get_or, arith, rules}
use Rattle.std.specs.Char.{digit_value}
use Rattle.percent_encoding.proofs.PercentLemmas.{KeepsFirst_from_no_escape, percent_decode_at_escape}
use Rattle.bl_script.proofs.decode.escaped_byte.Goals as goal

pub returns-in_default : goal.returns-in_default
returns-in_default c = KeepsFirst_from_no_escape _ (λ long percent high low. grind arith)

pub returns-in_default-2 : goal.returns-in_default-2
returns-in_default-2 c = KeepsFirst_from_no_escape _ (λ long percent high low. grind arith)

pub returns-in_err-high : goal.returns-in_err-high
returns-in_err-high c = rw c.from_residual.ensures (KeepsFirst_from_no_escape _ (λ long percent high low. search rules))

pub returns-in_err-low : goal.returns-in_err-low
returns-in_err-low c = rw c.from_residual-in_err-low.ensures (KeepsFirst_from_no_escape _ (λ long percent high low. search rules))

pub returns : goal.returns
returns c =
    let bytes = c.args.bytes.now in
    let value : c.in_ok-high.high * 16 + c.in_ok-low.low ≡ 16 * digit_value (get_or bytes 1 0) + digit_value (get_or bytes 2 0) = grind arith in
    (c.in-37.len_at_least, rw value (percent_decode_at_escape bytes (omega arith) (search rules) (search rules) (search rules)))
