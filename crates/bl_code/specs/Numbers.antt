-- How numbers and slices are spelled.
use Rattle.std.specs.Prelude.{◌≡◌, ℕ, zero, suc, ◌+◌, ◌*◌, ◌/◌, ◌%◌, ◌^◌, ◌<◌, ◌≤◌, nat_lt, List, [], ◌∷◌, ◌++◌, length, if◌then◌else◌}
use Rattle.std.specs.List.{AllByRecursion}
use Rattle.std.specs.Int.{w16, w32, w64, to_le_bytes}

-- each of these is a byte
abbrev pub IsBytes : List ℕ → Type 0
IsBytes bytes = AllByRecursion (λ b. b < 256) bytes

-- fixed numbers are little-endian
unfoldable pub fixed16 : ℕ → List ℕ
fixed16 n = to_le_bytes w16 n

unfoldable pub fixed32 : ℕ → List ℕ
fixed32 n = to_le_bytes w32 n

unfoldable pub fixed64 : ℕ → List ℕ
fixed64 n = to_le_bytes w64 n

-- A varint: a byte below 128 is the last; any other holds the low seven bits of the number, and the bytes behind it the rest.
-- A spelling may be longer than it has to be.
abbrev pub IsVarint : List ℕ → ℕ → Type 0
IsVarint [] n = ⊥
IsVarint (b ∷ []) n = (b < 128) × (n ≡ b)
IsVarint (b ∷ c ∷ bs) n = (128 ≤ b) × (b < 256) × (high : ℕ) × (n + 128 ≡ b + 128 * high) × IsVarint (c ∷ bs) high

abbrev pub IsVarint32 : List ℕ → ℕ → Type 0
IsVarint32 bytes n = (length bytes ≤ 5) × (n < 2 ^ 32) × IsVarint bytes n

abbrev pub IsVarint64 : List ℕ → ℕ → Type 0
IsVarint64 bytes n = (length bytes ≤ 10) × (n < 2 ^ 64) × IsVarint bytes n

-- the shortest spelling, of at most k bytes
unfoldable pub varint : ℕ → ℕ → List ℕ
varint zero n = []
varint (suc k) n = if nat_lt n 128 then n ∷ [] else (128 + n % 128) ∷ varint k (n / 128)

abbrev pub varint32 : ℕ → List ℕ
varint32 n = varint 5 n

abbrev pub varint64 : ℕ → List ℕ
varint64 n = varint 10 n

-- the length, and that many bytes
abbrev pub slice : List ℕ → List ℕ
slice bytes = varint32 (length bytes) ++ bytes

-- a slice whose length may be spelled longer than it has to be
pub record IsSlice (spelled bytes : List ℕ) : Type 0 where
  pub size : List ℕ
  pub size_is : IsVarint32 size (length bytes)
  pub spelled_is : spelled ≡ size ++ bytes
