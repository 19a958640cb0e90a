use Rattle.std.proofs.Common.{◌∙◌, sym, ap, refl}
use Rattle.bl_code.specs.Crc.{crc_after}
use Rattle.bl_code.proofs.CrcLemmas.{crc_after-split, crc_after-at, crc_after-end}
use Rattle.bl_code.proofs.crc.after_bytes.Goals as goal

pub loop-rest-preserved : goal.loop-rest-preserved
loop-rest-preserved c =
    ap (λ s. crc_after s c.split_at.result.1.now) c.after_eight-now.ensures
    ∙ crc_after-split c.loop-rest.now c.loop-rest.rest.now _ _ 8 c.split_at.ensures.front c.split_at.ensures.back
    ∙ c.loop-rest.invariant

pub loop-byte-preserved : goal.loop-byte-preserved
loop-byte-preserved c =
    crc_after-at c.loop-byte.now _ _ c.loop-rest.rest.now c.loop-byte.byte-index c.loop-byte-test.true refl c.after_byte-now.ensures ∙ c.loop-byte.invariant

pub returns : goal.returns
returns c = sym (crc_after-end c.loop-byte.now c.loop-rest.rest.now c.loop-byte.byte-index c.loop-byte-test.false) ∙ c.loop-byte.invariant
