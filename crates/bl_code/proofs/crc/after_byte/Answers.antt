use Rattle.std.proofs.Common.{◌/◌, ◌∙◌, sym, ap, bit_xor}
use Rattle.bl_code.proofs.CrcLemmas.{crc_byte-split}
use Rattle.bl_code.proofs.crc.after_byte.Goals as goal

pub returns : goal.returns
returns c =
    let table = rw c.to_le_bytes.ensures at c.passed.ensures in
    ap (λ x. bit_xor x (c.args.state / 256)) table ∙ sym (crc_byte-split c.args.state c.args.byte c.ranges.byte.fits)
