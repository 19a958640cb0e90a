use Rattle.std.proofs.Common.{◌≡◌, ◌∙◌, ap, ◌∷◌, bit_xor, []}
use Rattle.bl_code.specs.Crc.{crc_after, crc32c, mask_of}
use Rattle.bl_log.proofs.LayoutLemmas.{spelled_fragment}
use Rattle.bl_log.proofs.writer.put_fragment.Goals as goal

sum_is : (c : goal.In_ok-extend_from_slice) → c.mask.result ≡ mask_of (crc32c (c.args.kind ∷ c.args.payload.now))
unfolding crc_after
sum_is c = c.mask.ensures ∙ ap mask_of (c.value.ensures ∙ ap (λ s. bit_xor s 0xFFFFFFFF) (c.extend-2.ensures ∙ ap (λ s. crc_after s c.args.payload.now) (c.extend.ensures ∙ ap (λ s. crc_after s (c.args.kind ∷ [])) c.start-crc.ensures)))

pub returns : goal.returns
returns c =
    spelled_fragment c.args.out.now.items _ _ _ _ c.args.payload.now c.args.kind c.mask.result
    c.in_ok-put_fixed32.ensures.ok c.in_ok-put_fixed16.ensures.ok c.in_ok-push.ensures.items c.in_ok-extend_from_slice.ensures.items (sum_is c)
