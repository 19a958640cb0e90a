-- Worked rows of blob indexes and of the meter.
use Rattle.std.proofs.Common.{◌≡◌, [], ◌∷◌, refl, Ok, Err}
use Rattle.bl_code.specs.Numbers.{varint}
use Rattle.bl_code.specs.Reading.{take_bytes, varint_in}
use Rattle.bl_code.specs.BlobIndex.{blob_index}
use Rattle.bl_index.specs.declared.error.IndexRule.TheVariants.{Empty, Kind, Number, Compression, Trailing}
use Rattle.bl_index.specs.Index.{read_index, index_at, bad}
use Rattle.bl_index.specs.Metering.{In, Out, garbage}

spelled : blob_index 5 63 3 ≡ 1 ∷ 5 ∷ 0x3F ∷ 3 ∷ 0 ∷ []
unfolding varint
spelled = refl

read_again : read_index (1 ∷ 5 ∷ 0x3F ∷ 3 ∷ 0 ∷ []) ≡ Ok (record { file = 5; offset = 63; size = 3 })
unfolding index_at varint_in take_bytes
read_again = refl

overlong : read_index (1 ∷ 0x85 ∷ 0 ∷ 0x3F ∷ 3 ∷ 0 ∷ []) ≡ Ok (record { file = 5; offset = 63; size = 3 })
unfolding index_at varint_in take_bytes
overlong = refl

no_bytes : read_index [] ≡ Err (bad Empty 0)
unfolding index_at take_bytes
no_bytes = refl

another_kind : read_index (0 ∷ 5 ∷ 0x3F ∷ 3 ∷ 0 ∷ []) ≡ Err (bad Kind 0)
unfolding index_at varint_in take_bytes
another_kind = refl

cut_number : read_index (1 ∷ 5 ∷ 0xBF ∷ []) ≡ Err (bad Number 2)
unfolding index_at varint_in take_bytes
cut_number = refl

no_compression_byte : read_index (1 ∷ 5 ∷ 0x3F ∷ 3 ∷ []) ≡ Err (bad Compression 4)
unfolding index_at varint_in take_bytes
no_compression_byte = refl

trailing : read_index (1 ∷ 5 ∷ 0x3F ∷ 3 ∷ 0 ∷ 0 ∷ []) ≡ Err (bad Trailing 5)
unfolding index_at varint_in take_bytes
trailing = refl

-- a reference under a key of one byte to a value of three
went_in : garbage (In 5 36 ∷ []) 5 ≡ (1, 36)
went_in = refl

unnamed : garbage (In 5 36 ∷ []) 9 ≡ (0, 0)
unnamed = refl

came_out : garbage (In 5 36 ∷ Out 5 36 ∷ Out 7 40 ∷ []) 5 ≡ (0, 0)
came_out = refl

never_went_in : garbage (In 5 36 ∷ Out 5 36 ∷ Out 7 40 ∷ []) 7 ≡ (0, 0)
never_went_in = refl

-- what came out before anything went in is not counted
too_early : garbage (Out 5 36 ∷ In 5 36 ∷ []) 5 ≡ (1, 36)
too_early = refl
