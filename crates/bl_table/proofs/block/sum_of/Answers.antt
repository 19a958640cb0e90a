use Rattle.std.proofs.Common.{◌∙◌, ap, sym, ◌∷◌, bit_xor, []}
use Rattle.bl_code.specs.Crc.{crc_after, mask_of}
use Rattle.bl_table.proofs.BlockLemmas.{crc_after-append}
use Rattle.bl_table.proofs.block.sum_of.Goals as goal

pub returns : goal.returns
returns c =
    c.mask.ensures ∙ ap mask_of (c.value.ensures ∙ ap (λ s. bit_xor s 0xFFFFFFFF) (c.extend-2.ensures ∙ ap (λ s. crc_after s (c.args.kind ∷ [])) (c.extend.ensures ∙ ap (λ s. crc_after s c.args.block.now) c.start-crc.ensures)
    ∙ sym (crc_after-append c.args.block.now (c.args.kind ∷ []) 0xFFFFFFFF)))
