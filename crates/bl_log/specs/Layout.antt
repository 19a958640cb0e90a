-- How a writer lays records out: each takes as much of a block as fits.
use Rattle.std.specs.Prelude.{ℕ, zero, suc, ◌+◌, ◌-◌, ◌%◌, nat_lt, Bool, true, false, List, [], ◌∷◌, ◌++◌, length, replicate, if◌then◌else◌}
use Rattle.bl_code.specs.Crc.{crc32c, mask_of}
use Rattle.bl_code.specs.Numbers.{fixed16, fixed32}
use Rattle.bl_log.specs.Log.{room}

-- how a fragment is spelled
unfoldable pub fragment : ℕ → List ℕ → List ℕ
fragment type payload = fixed32 (mask_of (crc32c (type ∷ payload))) ++ (fixed16 (length payload) ++ type ∷ payload)

-- a block with no room for a head is filled with zeros
unfoldable pub filler : ℕ → List ℕ
filler place = if nat_lt (room place) 7 then replicate (room place) 0 else []

-- the payload bytes that the next fragment has room for, behind the filler and its head
unfoldable pub space : ℕ → ℕ
space place = (if nat_lt (room place) 7 then 32768 else room place) - 7

-- a byte joins the first piece
abbrev pub onto : ℕ → List (List ℕ) → List (List ℕ)
onto b [] = (b ∷ []) ∷ []
onto b (piece ∷ pieces) = (b ∷ piece) ∷ pieces

-- A payload in pieces: the first has room for so many bytes, and each further one for the 32761 of a whole block. No bytes are one empty piece.
unfoldable pub pieces : ℕ → List ℕ → List (List ℕ)
pieces n [] = [] ∷ []
pieces zero (b ∷ bs) = [] ∷ onto b (pieces 32760 bs)
pieces (suc n) (b ∷ bs) = onto b (pieces n bs)

-- full, first, middle or last
abbrev pub type_of : Bool → Bool → ℕ
type_of begun whole = if begun then (if whole then 4 else 3) else (if whole then 1 else 2)

-- a fragment for each piece of a record, which has begun before them or not
unfoldable pub spelled : Bool → List (List ℕ) → List ℕ
spelled begun [] = []
spelled begun (piece ∷ []) = fragment (type_of begun true) piece
spelled begun (piece ∷ next ∷ pieces) = fragment (type_of begun false) piece ++ spelled true (next ∷ pieces)

-- the bytes that append a record at a place
unfoldable pub layout : ℕ → List ℕ → List ℕ
layout place payload = filler place ++ spelled false (pieces (space place) payload)

-- the bytes that append some records at a place, one after another
unfoldable pub written : ℕ → List (List ℕ) → List ℕ
written place [] = []
written place (payload ∷ payloads) = layout place payload ++ written ((place + length (layout place payload)) % 32768) payloads
