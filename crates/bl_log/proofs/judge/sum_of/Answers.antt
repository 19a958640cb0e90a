use Rattle.std.proofs.Common.{◌∙◌, ap, ◌∷◌, bit_xor, []}
use Rattle.bl_code.specs.Crc.{crc_after, mask_of}
use Rattle.bl_log.proofs.judge.sum_of.Goals as goal

pub returns : goal.returns
unfolding crc_after
returns c = c.mask.ensures ∙ ap mask_of (c.value.ensures ∙ ap (λ s. bit_xor s 0xFFFFFFFF) (c.extend-2.ensures ∙ ap (λ s. crc_after s c.args.payload.now) (c.extend.ensures ∙ ap (λ s. crc_after s (c.args.kind ∷ [])) c.start-crc.ensures)))
