-- Worked rows of numbers and checksums.
use Rattle.std.proofs.Common.{◌≡◌, ℕ, ◌^◌, ◌-◌, List, [], ◌∷◌, Some, None, refl}
use Rattle.bl_code.specs.Numbers.{varint, varint32, varint64, fixed32}
use Rattle.bl_code.specs.Crc.{crc_bits, crc_after, crc32c, mask_of}
use Rattle.bl_code.specs.Reading.{from_start, varint_in, take_varint32, take_varint64}

-- the digits 1 to 9
digits : List ℕ
digits = 0x31 ∷ 0x32 ∷ 0x33 ∷ 0x34 ∷ 0x35 ∷ 0x36 ∷ 0x37 ∷ 0x38 ∷ 0x39 ∷ []

checksum : crc32c digits ≡ 0xE3069283
unfolding digits crc_bits crc_after
checksum = refl

masked : mask_of 0xE3069283 ≡ 0xC78AB0E5
unfolding mask_of
masked = refl

little_endian : fixed32 0x00248F37 ≡ 0x37 ∷ 0x8F ∷ 0x24 ∷ 0 ∷ []
unfolding fixed32
little_endian = refl

varint_0 : varint32 0 ≡ 0 ∷ []
unfolding varint
varint_0 = refl

varint_127 : varint32 127 ≡ 127 ∷ []
unfolding varint
varint_127 = refl

varint_128 : varint32 128 ≡ 0x80 ∷ 1 ∷ []
unfolding varint
varint_128 = refl

varint_300 : varint64 300 ≡ 0xAC ∷ 2 ∷ []
unfolding varint
varint_300 = refl

greatest_32 : varint32 (2 ^ 32 - 1) ≡ 0xFF ∷ 0xFF ∷ 0xFF ∷ 0xFF ∷ 0x0F ∷ []
unfolding varint
greatest_32 = refl

greatest_64 : varint64 (2 ^ 64 - 1) ≡ 0xFF ∷ 0xFF ∷ 0xFF ∷ 0xFF ∷ 0xFF ∷ 0xFF ∷ 0xFF ∷ 0xFF ∷ 0xFF ∷ 1 ∷ []
unfolding varint
greatest_64 = refl

-- a longer spelling is accepted
overlong : take_varint32 (from_start (0x85 ∷ 0 ∷ 7 ∷ [])) ≡ Some (5, record { place = 2; left = 7 ∷ [] })
unfolding varint_in
overlong = refl

-- a number of 2 ^ 32 or more is refused
too_large : take_varint32 (from_start (0x80 ∷ 0x80 ∷ 0x80 ∷ 0x80 ∷ 0x10 ∷ [])) ≡ None
unfolding varint_in
too_large = refl

-- and so are eleven bytes, and a spelling that is cut
too_long : take_varint64 (from_start (0x80 ∷ 0x80 ∷ 0x80 ∷ 0x80 ∷ 0x80 ∷ 0x80 ∷ 0x80 ∷ 0x80 ∷ 0x80 ∷ 0x80 ∷ 0 ∷ [])) ≡ None
unfolding varint_in
too_long = refl

cut : take_varint64 (from_start (0x80 ∷ 0x80 ∷ [])) ≡ None
unfolding varint_in
cut = refl
