-- The definitions at small logs, against bytes and numbers typed in.
use Rattle.std.proofs.Common.{◌≡◌, ℕ, ◌+◌, ◌%◌, false, ◌∙◌, ap, arith, List, [], ◌∷◌, ◌++◌, length, length-append, drop, refl, append-nil}
use Rattle.std.specs.Prelude.{replicate}
use Rattle.bl_code.specs.Crc.{crc_bits, crc_after, mask_of}
use Rattle.bl_code.specs.Numbers.{fixed16, fixed32}
use Rattle.bl_log.specs.declared.cause.EndCause.TheVariants.{Finished, Cut, Kind}
use Rattle.bl_log.specs.Log.{records, placed_records, ending, fragments, step_at, walk}
use Rattle.bl_log.specs.Layout.{fragment, filler, space, pieces, spelled, layout, written}
use Rattle.bl_log.proofs.LayoutLemmas.{spelled_whole}
use Rattle.bl_log.proofs.WalkLemmas.{length-fragment}

-- a batch of 19 bytes, which puts xyz at a, in its fragment of 26
batch : List ℕ
batch = 1 ∷ 0 ∷ 0 ∷ 0 ∷ 0 ∷ 0 ∷ 0 ∷ 0 ∷ 1 ∷ 0 ∷ 0 ∷ 0 ∷ 1 ∷ 1 ∷ 0x61 ∷ 3 ∷ 0x78 ∷ 0x79 ∷ 0x7A ∷ []

batch_fragment : drop 4 (layout 0 batch) ≡ 0x13 ∷ 0 ∷ 1 ∷ batch
unfolding batch crc_bits crc_after mask_of fixed16 fixed32 fragment filler space pieces spelled layout
batch_fragment = refl

-- where exactly a head has room, an empty first fragment
seven_left : layout 32761 (5 ∷ []) ≡ fragment 2 [] ++ fragment 4 (5 ∷ [])
unfolding filler space pieces spelled layout
seven_left = refl

-- where none has, filler
six_left : layout 32762 [] ≡ replicate 6 0 ++ fragment 1 []
unfolding filler space pieces spelled layout
six_left = refl

two_records : records (fragment 1 (0 ∷ []) ++ (fragment 2 (5 ∷ []) ++ fragment 4 (6 ∷ []))) ≡ (0 ∷ []) ∷ (5 ∷ 6 ∷ []) ∷ []
unfolding crc_bits crc_after mask_of fixed16 fixed32 fragment walk step_at
two_records = refl

-- the place behind the fragment of one byte
one_placed : placed_records (fragment 1 (0 ∷ [])) ≡ (0 ∷ [], 8) ∷ []
unfolding crc_bits crc_after mask_of fixed16 fixed32 fragment walk step_at
one_placed = refl

half_read : ending (fragment 1 (0 ∷ []) ++ fragment 2 (5 ∷ [])) ≡ (16, Cut)
unfolding crc_bits crc_after mask_of fixed16 fixed32 fragment walk step_at
half_read = refl

two_fragments : fragments (fragment 2 (5 ∷ []) ++ fragment 4 []) ≡ (0, fragment 2 (5 ∷ [])) ∷ (8, fragment 4 []) ∷ []
unfolding crc_bits crc_after mask_of fixed16 fixed32 fragment walk step_at
two_fragments = refl

nothing : ending [] ≡ (0, Finished)
unfolding walk step_at
nothing = refl

seven_zeros : ending (replicate 7 0) ≡ (0, Kind)
unfolding walk step_at
seven_zeros = refl

-- a log of two records, whose sizes leave a head's room: its second one has an empty first fragment at 32761 and its last one at 32768
all_of_a_block : (payload : List ℕ) (b : ℕ) → length payload ≡ 32754 → written 0 (payload ∷ (b ∷ []) ∷ []) ≡ fragment 1 payload ++ (fragment 2 [] ++ fragment 4 (b ∷ []))
unfolding filler space pieces spelled layout written
all_of_a_block payload b n =
    let whole : spelled false (pieces 32761 payload) ≡ fragment 1 payload = spelled_whole false 32761 payload (omega arith) in
    let long : length (fragment 1 payload) ≡ 32761 = length-fragment 1 payload ∙ ap (λ k. 7 + k) n in
    let there : (0 + length (fragment 1 payload)) % 32768 ≡ 32761 = omega arith in
    ap (λ f. f ++ (layout ((0 + length f) % 32768) (b ∷ []) ++ [])) whole
    ∙ ap (λ p. fragment 1 payload ++ (layout p (b ∷ []) ++ [])) there
    ∙ ap (λ r. fragment 1 payload ++ r) (append-nil (layout 32761 (b ∷ [])))

-- 32776 bytes
its_size : (payload : List ℕ) (b : ℕ) → length payload ≡ 32754 → length (written 0 (payload ∷ (b ∷ []) ∷ [])) ≡ 32776
its_size payload b n =
    let long : length (fragment 1 payload) ≡ 32761 = length-fragment 1 payload ∙ ap (λ k. 7 + k) n in
    let first : length (fragment 2 []) ≡ 7 = length-fragment 2 [] in
    let last : length (fragment 4 (b ∷ [])) ≡ 8 = length-fragment 4 (b ∷ []) in
    ap length (all_of_a_block payload b n) ∙ length-append (fragment 1 payload) (fragment 2 [] ++ fragment 4 (b ∷ []))
    ∙ ap (λ k. length (fragment 1 payload) + k) (length-append (fragment 2 []) (fragment 4 (b ∷ []))) ∙ (omega arith)
