use Rattle.std.proofs.Common.{◌∙◌, sym, ap, arith, get_or}
use Rattle.bl_code.specs.Crc.{crc_after}
use Rattle.bl_code.proofs.CrcLemmas.{crc_after-eight, eight_bytes}
use Rattle.bl_code.proofs.crc.after_eight.Goals as goal

pub returns : goal.returns
returns c =
    let xs = c.args.bytes.now in
    let b = c.type_inv.bytes in
    let e0 = rw c.to_le_bytes.ensures at c.passed.ensures in
    let e1 = rw c.to_le_bytes.ensures at c.passed-2.ensures in
    let e2 = rw c.to_le_bytes.ensures at c.passed-3.ensures in
    let e3 = rw c.to_le_bytes.ensures at c.passed-4.ensures in
    rw (e0, e1, e2, e3, c.passed-5.ensures, c.passed-6.ensures, c.passed-7.ensures, c.passed-8.ensures)
    (crc_after-eight c.args.state (get_or xs 0 0) (get_or xs 1 0) (get_or xs 2 0) (get_or xs 3 0) (get_or xs 4 0) (get_or xs 5 0) (get_or xs 6 0) (get_or xs 7 0) (omega arith)
    (omega (arith, b 0)) (omega (arith, b 1)) (omega (arith, b 2)) (omega (arith, b 3)) (omega (arith, b 4)) (omega (arith, b 5)) (omega (arith, b 6)) (omega (arith, b 7))
    ∙ ap (crc_after c.args.state) (sym (eight_bytes xs c.requires)))
