-- Reading a log in the format of RocksDB and LevelDB. A log is cut into blocks of 32768 bytes. A record stands in it as one or more fragments. A fragment is a head of 7 bytes, which
-- are the masked checksum of type and payload (4), the payload's length (2) and the type (1), and the payload. Where a block has no room for a head, filler follows to its end.
use Rattle.std.specs.Prelude.{◌≡◌, ℕ, zero, suc, ◌+◌, ◌-◌, ◌%◌, ◌==◌, nat_lt, List, [], ◌∷◌, ◌++◌, length, map, take, drop, slice_index, Option, None, Some, if◌then◌else◌}
use Rattle.std.specs.Option.{option_to_list}
use Rattle.std.specs.Int.{w16, w32, from_le_bytes}
use Rattle.bl_code.specs.Crc.{crc32c, mask_of}
use Rattle.bl_log.specs.declared.cause.EndCause.{EndCause}
use Rattle.bl_log.specs.declared.cause.EndCause.TheVariants.{Finished, Cut, Length, Kind, Crc, Order}

-- which part of a record a fragment is
pub data Part : Type 0 where
  Full : Part
  First : Part
  Middle : Part
  Last : Part

abbrev pub part_of : ℕ → Option Part
part_of type = if type == 1 then Some Full else if type == 2 then Some First else if type == 3 then Some Middle else if type == 4 then Some Last else None

-- the bytes from a place to the end of its block
abbrev pub room : ℕ → ℕ
room place = 32768 - place % 32768

-- the fields of a fragment
abbrev pub sum_at : List ℕ → ℕ
sum_at bytes = from_le_bytes w32 (take 4 bytes)

abbrev pub size_at : List ℕ → ℕ
size_at bytes = from_le_bytes w16 (take 2 (drop 4 bytes))

abbrev pub type_at : List ℕ → ℕ
type_at bytes = slice_index bytes 6

abbrev pub payload_at : List ℕ → List ℕ
payload_at bytes = take (size_at bytes) (drop 7 bytes)

-- A step of a reading. It ends; or it skips so many bytes of filler; or it reads a fragment of so many bytes, with the record that this makes whole and what is half read behind it.
pub data Step : Type 0 where
  Ends : EndCause → Step
  Skips : ℕ → Step
  Reads : Option (List ℕ) → Option (List ℕ) → ℕ → Step

-- no byte follows
abbrev pub at_end : Option (List ℕ) → EndCause
at_end None = Finished
at_end (Some front) = Cut

-- a whole fragment of this payload and size, by what is half read before it
abbrev pub joined : Part → Option (List ℕ) → List ℕ → ℕ → Step
joined Full None payload size = Reads (Some payload) None size
joined First None payload size = Reads None (Some payload) size
joined Middle (Some front) payload size = Reads None (Some (front ++ payload)) size
joined Last (Some front) payload size = Reads (Some (front ++ payload)) None size
joined Full (Some front) payload size = Ends Order
joined First (Some front) payload size = Ends Order
joined Middle None payload size = Ends Order
joined Last None payload size = Ends Order

-- the tests behind the type's
abbrev pub typed : Option Part → Option (List ℕ) → List ℕ → Step
typed None half bytes = Ends Kind
typed (Some part) half bytes =
    if nat_lt (length bytes) (7 + size_at bytes) then Ends Cut
    else if sum_at bytes == mask_of (crc32c (type_at bytes ∷ payload_at bytes)) then joined part half (payload_at bytes) (7 + size_at bytes)
    else Ends Crc

-- the step at a place, by the bytes from there on: the causes in the order in which they are tested
unfoldable pub step_at : ℕ → Option (List ℕ) → List ℕ → Step
step_at place half bytes =
    if nat_lt (room place) 7 then (if nat_lt (length bytes) (room place) then Ends (at_end half) else Skips (room place))
    else if nat_lt (length bytes) 1 then Ends (at_end half)
    else if nat_lt (length bytes) 7 then Ends Cut
    else if nat_lt (room place) (7 + size_at bytes) then Ends Length
    else typed (part_of (type_at bytes)) half bytes

-- what is half read behind a step, and the bytes that it takes
abbrev pub behind : Option (List ℕ) → Step → Option (Option (List ℕ) × ℕ)
behind half (Ends cause) = None
behind half (Skips size) = Some (half, size)
behind half (Reads whole next size) = Some (next, size)

abbrev pub go_on : Option (Option (List ℕ) × ℕ) → (Option (List ℕ) → ℕ → List Step) → List Step
go_on None rest = []
go_on (Some to) rest = rest to.0 to.1

-- The steps of a reading from a place on, when so many bytes there are passed over first. The last one says why it ends.
unfoldable pub walk : ℕ → ℕ → Option (List ℕ) → List ℕ → List Step
walk skip place half [] = step_at place half [] ∷ []
walk (suc skip) place half (b ∷ bs) = walk skip (place + 1) half bs
walk zero place half (b ∷ bs) =
    step_at place half (b ∷ bs) ∷ go_on (behind half (step_at place half (b ∷ bs))) (λ next size. walk (size - 1) (place + 1) next bs)

abbrev pub steps : List ℕ → List Step
steps bytes = walk 0 0 None bytes

-- the record that a step makes whole
abbrev pub whole_of : Step → List (List ℕ)
whole_of (Ends cause) = []
whole_of (Skips size) = []
whole_of (Reads whole next size) = option_to_list whole

-- the bytes that a step takes
abbrev pub size_of : Step → ℕ
size_of (Ends cause) = 0
size_of (Skips size) = size
size_of (Reads whole next size) = size

abbrev pub bytes_of : List Step → ℕ
bytes_of [] = 0
bytes_of (step ∷ more) = size_of step + bytes_of more

abbrev pub records_of : List Step → List (List ℕ)
records_of [] = []
records_of (step ∷ more) = whole_of step ++ records_of more

-- the records of a log
abbrev pub records : List ℕ → List (List ℕ)
records bytes = records_of (steps bytes)

-- each record with the place behind its last fragment, when the steps begin at a place
abbrev pub placed_from : ℕ → List Step → List (List ℕ × ℕ)
placed_from place [] = []
placed_from place (step ∷ more) = map (λ payload. (payload, place + size_of step)) (whole_of step) ++ placed_from (place + size_of step) more

abbrev pub placed_records : List ℕ → List (List ℕ × ℕ)
placed_records bytes = placed_from 0 (steps bytes)

-- why the reading ends: its last step says it
abbrev pub cause_of : List Step → EndCause
cause_of [] = Finished
cause_of (Ends cause ∷ []) = cause
cause_of (step ∷ more) = cause_of more

-- where and why the reading ends
abbrev pub ending : List ℕ → ℕ × EndCause
ending bytes = (bytes_of (steps bytes), cause_of (steps bytes))

-- whatever follows these bytes, their reading ends where and why it ends now
abbrev pub IsDecided : List ℕ → Type 0
IsDecided bytes = (more : List ℕ) → steps (bytes ++ more) ≡ steps bytes

-- the fragments that are read, each with its place, when the steps begin at a place with these bytes
abbrev pub fragments_from : ℕ → List ℕ → List Step → List (ℕ × List ℕ)
fragments_from place bytes [] = []
fragments_from place bytes (Ends cause ∷ more) = []
fragments_from place bytes (Skips size ∷ more) = fragments_from (place + size) (drop size bytes) more
fragments_from place bytes (Reads whole next size ∷ more) = (place, take size bytes) ∷ fragments_from (place + size) (drop size bytes) more

abbrev pub fragments : List ℕ → List (ℕ × List ℕ)
fragments bytes = fragments_from 0 bytes (steps bytes)

-- Read from a place on, with half in hand, the bytes give these records and leave next in hand, whatever follows.
pub record Gives (place : ℕ) (half : Option (List ℕ)) (bytes : List ℕ) (found : List (List ℕ)) (next : Option (List ℕ)) : Type 0 where
  pub passed : List Step
  pub walks : (more : List ℕ) → walk 0 place half (bytes ++ more) ≡ passed ++ walk 0 (place + length bytes) next more
  pub records : records_of passed ≡ found
  pub size : bytes_of passed ≡ length bytes

-- the bytes are a log of these records, to which more may be added
abbrev pub IsLog : List ℕ → List (List ℕ) → Type 0
IsLog bytes payloads = Gives 0 None bytes payloads None
