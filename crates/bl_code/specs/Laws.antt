-- What ties the readings to the spellings.
use Rattle.std.specs.Prelude.{◌≡◌, ℕ, ◌+◌, ◌^◌, ◌<◌, List, ◌++◌, length, Some, ◌↔◌}
use Rattle.bl_code.specs.Numbers.{IsBytes, fixed16, fixed32, fixed64, varint32, varint64, IsVarint32, IsVarint64}
use Rattle.bl_code.specs.Reading.{Input, Read}

-- what is spelled is taken again, whatever follows
abbrev pub TakesAgain : {A : Type 0} → (Input → Read A) → (A → List ℕ) → (A → Type 0) → Type 0
TakesAgain {A = A} reading spelling fits =
    (x : A) (place : ℕ) (rest : List ℕ) → fits x
    → reading (record { place = place; left = spelling x ++ rest }) ≡ Some (x, record { place = place + length (spelling x); left = rest })

-- in front of the bytes behind it stands a spelling of what is taken
pub record StandsBefore {A : Type 0} (IsSpelled : List ℕ → A → Type 0) (input : Input) (x : A) (behind : Input) : Type 0 where
  pub spelled : List ℕ
  pub is : IsSpelled spelled x
  pub left : input.left ≡ spelled ++ behind.left
  pub place : behind.place ≡ input.place + length spelled

-- a value is taken exactly where a spelling of it stands
abbrev pub TakesExactly : {A : Type 0} → (Input → Read A) → (List ℕ → A → Type 0) → Type 0
TakesExactly {A = A} reading IsSpelled =
    (input : Input) (x : A) (behind : Input) → IsBytes input.left → (reading input ≡ Some (x, behind)) ↔ StandsBefore IsSpelled input x behind

abbrev pub IsFixed16 : List ℕ → ℕ → Type 0
IsFixed16 bytes n = (n < 2 ^ 16) × (bytes ≡ fixed16 n)

abbrev pub IsFixed32 : List ℕ → ℕ → Type 0
IsFixed32 bytes n = (n < 2 ^ 32) × (bytes ≡ fixed32 n)

abbrev pub IsFixed64 : List ℕ → ℕ → Type 0
IsFixed64 bytes n = (n < 2 ^ 64) × (bytes ≡ fixed64 n)

-- the shortest spelling of a varint is one
abbrev pub SpellsVarints : Type 0
SpellsVarints = ((n : ℕ) → n < 2 ^ 32 → IsVarint32 (varint32 n) n) × ((n : ℕ) → n < 2 ^ 64 → IsVarint64 (varint64 n) n)
