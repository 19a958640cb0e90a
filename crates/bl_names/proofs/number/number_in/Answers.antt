use Rattle.std.proofs.Common.{◌≡◌, ◌^◌, ◌<◌, ◌≤◌, length, get_or, ap, arith}
use Rattle.std.specs.Prelude.{Some}
use Rattle.std.specs.Char.{IsNotAsciiDigit}
use Rattle.bl_names.specs.Names.{IsWide}
use Rattle.bl_names.proofs.DigitLemmas.{AreDigits, at_most, not_digits, not_wide, number_is, number_found}
use Rattle.bl_names.proofs.number.number_in.Goals as goal

pub returns-then-not-is_wide-clause-all : goal.returns-then-not-is_wide-clause-all
returns-then-not-is_wide-clause-all c = λ n h e.
    absurd (not_wide c.args.text.now n h e (λ wide. let t = c.is_wide.ensures.1 wide in cc))

pub returns-then-not-is_ascii_digit-clause-all : goal.returns-then-not-is_ascii_digit-clause-all
returns-then-not-is_ascii_digit-clause-all c = λ n h e.
    let no_digit : IsNotAsciiDigit (get_or c.args.text.now c.loop-digit.digit-index 0) = c.if-not-is_ascii_digit.ensures.cases in
    absurd (not_digits c.args.text.now n c.loop-digit.digit-index h e c.loop-digit-test.true (λ d. omega (arith, no_digit, d.0, d.1)))

pub overflow_mul-number : goal.overflow_mul-number
overflow_mul-number c =
    let wide : IsWide c.args.text.now = c.is_wide.ensures.0 c.if-not-is_wide.false in
    let short : c.loop-digit.digit-index < 15 = omega (arith, wide, c.loop-digit-test.true) in
    let small : c.loop-digit.number < 10 ^ 14 = at_most c.loop-digit.number c.loop-digit.digit-index 14 c.loop-digit.invariant.small (omega arith) in
    omega arith

pub overflow_add-number : goal.overflow_add-number
overflow_add-number c =
    let wide : IsWide c.args.text.now = c.is_wide.ensures.0 c.if-not-is_wide.false in
    let short : c.loop-digit.digit-index < 15 = omega (arith, wide, c.loop-digit-test.true) in
    let small : c.loop-digit.number < 10 ^ 14 = at_most c.loop-digit.number c.loop-digit.digit-index 14 c.loop-digit.invariant.small (omega arith) in
    let digit : get_or c.args.text.now c.loop-digit.digit-index 0 < 256 = omega (arith, c.type_inv.text c.loop-digit.digit-index) in
    omega (arith, c.from.ensures)

pub returns-then-number-eq0-clause-all : goal.returns-then-number-eq0-clause-all
returns-then-number-eq0-clause-all c = λ n h e.
    let same : c.loop-digit.number ≡ n = number_is c.args.text.now c.loop-digit.number n c.loop-digit.digit-index h e c.loop-digit-test.false c.loop-digit.invariant.value in
    absurd (omega (arith, h.0))

pub returns-else-number-eq0-clause-found : goal.returns-else-number-eq0-clause-found
returns-else-number-eq0-clause-found c =
    let wide : IsWide c.args.text.now = c.is_wide.ensures.0 c.if-not-is_wide.false in
    let end : length c.args.text.now ≤ c.loop-digit.digit-index = c.loop-digit-test.false in
    let short : c.loop-digit.digit-index ≤ 15 = omega (arith, wide) in
    let small : c.loop-digit.number < 10 ^ 15 = at_most c.loop-digit.number c.loop-digit.digit-index 15 c.loop-digit.invariant.small short in
    let some : 0 < c.loop-digit.number = omega arith in
    let all : AreDigits c.args.text.now = λ k lt. c.loop-digit.invariant.digits k (omega arith) in
    ((some, small), number_found c.args.text.now c.loop-digit.number c.loop-digit.digit-index all wide end c.loop-digit.invariant.value some small)

pub returns-else-number-eq0-clause-all : goal.returns-else-number-eq0-clause-all
returns-else-number-eq0-clause-all c = λ n h e.
    ap Some (number_is c.args.text.now c.loop-digit.number n c.loop-digit.digit-index h e c.loop-digit-test.false c.loop-digit.invariant.value)
