-- Reading bytes from left to right: a value and what is left, or none. A reader of a format answers its value, or the first fault.
use Rattle.std.specs.Prelude.{◌≡◌, ℕ, zero, suc, ◌+◌, ◌-◌, ◌*◌, ◌^◌, ◌≤◌, nat_lt, nat_le, Bool, List, [], ◌∷◌, length, take, drop, Option, None, Some, option_and_then, Result, Ok, Err, if◌then◌else◌}
use Rattle.std.specs.Int.{Width, w16, w32, w64, byte_len, from_le_bytes}

-- bytes to be read, and the place of the first of them
pub record Input : Type 0 where
  pub place : ℕ
  pub left : List ℕ

abbrev pub from_start : List ℕ → Input
from_start bytes = record { place = 0; left = bytes }

-- what was read, and the bytes behind it
abbrev pub Read : Type 0 → Type 0
Read A = Option (A × Input)

-- a reader that goes on where another ended
infixl 10 ◌>>=◌
abbrev pub ◌>>=◌ : {A B E : Type 0} → Result A E → (A → Result B E) → Result B E
(Ok x) >>= f = f x
(Err e) >>= f = Err e

-- the value, or this fault
abbrev pub or_fault : {A E : Type 0} → E → Option A → Result A E
or_fault e None = Err e
or_fault e (Some x) = Ok x

-- nothing where the test holds, or else this fault
abbrev pub need : {E : Type 0} → Bool → E → Result (Unit {0}) E
need b e = if b then Ok tt else Err e

-- n bytes
unfoldable pub take_bytes : ℕ → Input → Read (List ℕ)
take_bytes n input =
    if nat_le n (length input.left) then Some (take n input.left, record { place = input.place + n; left = drop n input.left }) else None

abbrev pub take_fixed : Width → Input → Read ℕ
take_fixed w input = option_and_then (λ r. Some (from_le_bytes w r.0, r.1)) (take_bytes (byte_len w) input)

abbrev pub take_byte : Input → Read ℕ
take_byte input = elim input.left [ [] ↦ None | b ∷ bs ↦ Some (b, record { place = input.place + 1; left = bs }) ]

abbrev pub take_fixed16 : Input → Read ℕ
take_fixed16 = take_fixed w16

abbrev pub take_fixed32 : Input → Read ℕ
take_fixed32 = take_fixed w32

abbrev pub take_fixed64 : Input → Read ℕ
take_fixed64 = take_fixed w64

-- the number that the bytes spell, of at most k bytes, and the bytes behind them
unfoldable pub varint_in : ℕ → ℕ → List ℕ → Read ℕ
varint_in zero place bytes = None
varint_in (suc k) place [] = None
varint_in (suc k) place (b ∷ bs) =
    if nat_lt b 128 then Some (b, record { place = place + 1; left = bs })
    else option_and_then (λ r. Some (b - 128 + 128 * r.0, r.1)) (varint_in k (place + 1) bs)

-- a number below 2 ^ bits
abbrev pub below : ℕ → Read ℕ → Read ℕ
below bits read = option_and_then (λ r. if nat_lt r.0 (2 ^ bits) then Some r else None) read

abbrev pub take_varint32 : Input → Read ℕ
take_varint32 input = below 32 (varint_in 5 input.place input.left)

abbrev pub take_varint64 : Input → Read ℕ
take_varint64 input = below 64 (varint_in 10 input.place input.left)

-- a length, and that many bytes
abbrev pub take_slice : Input → Read (List ℕ)
take_slice input = option_and_then (λ r. take_bytes r.0 r.1) (take_varint32 input)

-- What a call of a taker answers where this is the reading of the taker before it: the value, and the taker stands behind it; or
-- nothing, and the taker has not moved.
abbrev pub Takes : {A : Type 0} → Option A → Input → Input → Read A → Type 0
Takes (Some x) old new reading = reading ≡ Some (x, new)
Takes None old new reading = (reading ≡ None) × (new ≡ old)

-- the number and the size of the varint in front, wherever it stands
abbrev pub LeadsVarint : ℕ → List ℕ → Option (ℕ × ℕ) → Type 0
LeadsVarint most bytes None = (place : ℕ) → varint_in most place bytes ≡ None
LeadsVarint most bytes (Some found) =
    (found.1 ≤ length bytes)
    × ((place : ℕ) → varint_in most place bytes ≡ Some (found.0, record { place = place + found.1; left = drop found.1 bytes }))
