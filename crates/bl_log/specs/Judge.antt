-- The code's own view of a reading: what it judges a fragment to be, and how far it has come.
use Rattle.std.specs.Prelude.{◌≡◌, ℕ, ◌+◌, ◌%◌, ◌^◌, ◌≤◌, ◌&&◌, ◌⊎◌, nat_lt, nat_le, List, [], ◌∷◌, ◌++◌, map, take, drop, Option, None, Some, Bool, true, false, if◌then◌else◌}
use Rattle.bl_log.specs.declared.cause.EndCause.{EndCause}
use Rattle.bl_log.specs.declared.cause.EndCause.TheVariants.{Finished, Cut, Kind, Order}
use Rattle.bl_log.specs.declared.judge.Judged.{Judged}
use Rattle.bl_log.specs.declared.judge.Judged.TheVariants as judged
use Rattle.bl_log.specs.declared.seek.Cursor.{Cursor}
use Rattle.bl_log.specs.declared.seek.Sought.{Sought}
use Rattle.bl_log.specs.declared.seek.Sought.TheVariants as sought
use Rattle.bl_log.specs.Log.{Part, Step, Ends, Reads, room, joined, step_at, walk, bytes_of, placed_from}
use Rattle.bl_log.specs.Reading.{IsBehindFragment}

-- what is half read, and the payload behind it
abbrev pub gathered : Option (List ℕ) → List ℕ → List ℕ
gathered None payload = payload
gathered (Some front) payload = front ++ payload

-- a fragment that is the last of its record or not
abbrev pub read_of : Bool → Option (List ℕ) → List ℕ → ℕ → Step
read_of true half payload size = Reads (Some (gathered half payload)) None size
read_of false half payload size = Reads None (Some (gathered half payload)) size

abbrev pub joined_as : Option Part → Option (List ℕ) → List ℕ → ℕ → Step
joined_as None half payload size = Ends Kind
joined_as (Some part) half payload size = joined part half payload size

abbrev pub read_as : Option Bool → Option (List ℕ) → List ℕ → ℕ → Step
read_as None half payload size = Ends Order
read_as (Some last) half payload size = read_of last half payload size

abbrev pub step_of : Judged → Option (List ℕ) → List ℕ → Step
step_of (judged.Ends cause) half bytes = Ends cause
step_of (judged.Fragment last size) half bytes = read_of last half (take size (drop 7 bytes)) (7 + size)

-- a fragment is among the bytes held
abbrev pub IsWithin : Judged → ℕ → Type 0
IsWithin (judged.Ends cause) n = Unit {0}
IsWithin (judged.Fragment last size) n = 7 + size ≤ n

-- the filler before a fragment, where it is among so many bytes
abbrev pub filler_before : ℕ → ℕ → ℕ
filler_before place n = if nat_lt (room place) 7 && nat_le (room place) n then room place else 0

-- more bytes may change it
abbrev pub IsOpen : EndCause → Type 0
IsOpen cause = (cause ≡ Finished) ⊎ (cause ≡ Cut)

-- whatever follows, these bytes have the step that they have
abbrev pub IsFixed : ℕ → Option (List ℕ) → List ℕ → Type 0
IsFixed place half bytes = (more : List ℕ) → step_at place half (bytes ++ more) ≡ step_at place half bytes

abbrev pub half_of : Bool → List ℕ → Option (List ℕ)
half_of begun front = if begun then Some front else None

-- From a place and what is held of the bytes there, reading goes on to another, whatever follows, and its last step finds these records.
pub record Runs (from : ℕ) (half : Option (List ℕ)) (held : List ℕ) (to : ℕ) (next : Option (List ℕ)) (rest : List ℕ) (found : List (List ℕ)) : Type 0 where
  pub passed : List Step
  pub walks : (more : List ℕ) → walk 0 from half (held ++ more) ≡ passed ++ walk 0 to next (rest ++ more)
  pub stands : to ≡ (from + bytes_of passed) % 2 ^ 64
  pub behind : IsBehindFragment passed
  pub finds : (place : ℕ) → placed_from place passed ≡ map (λ payload. (payload, place + bytes_of passed)) found

-- the same of a cursor in the bytes held
abbrev pub Reaches : List ℕ → Cursor → List ℕ → Cursor → List ℕ → List (List ℕ) → Type 0
Reaches held at half to next found = Runs at.place (half_of at.begun half) (drop at.read held) to.place (half_of to.begun next) (drop to.read held) found

-- Behind the filler before a place, reading ends.
pub record IsStuck (place : ℕ) (half : Option (List ℕ)) (held : List ℕ) (here : ℕ) (cause : EndCause) : Type 0 where
  pub skipped : List Step
  pub rest : List ℕ
  pub walks : (more : List ℕ) → walk 0 place half (held ++ more) ≡ skipped ++ walk 0 here half (rest ++ more)
  pub stands : here ≡ (place + bytes_of skipped) % 2 ^ 64
  pub finds : (from : ℕ) → placed_from from skipped ≡ []
  pub ends : step_at here half rest ≡ Ends cause

abbrev pub Seeks : Sought → List ℕ → Cursor → List ℕ → Cursor → List ℕ → Type 0
Seeks sought.Record held at half to next = Reaches held at half to next (next ∷ []) × (to.begun ≡ false)
Seeks (sought.Stands here cause) held at half to next = Reaches held at half to next [] × IsStuck to.place (half_of to.begun next) (drop to.read held) here cause × (to.begun ≡ false → next ≡ [])

-- one step: a fragment that is not the last of its record, or what was sought
abbrev pub Steps : Option Sought → List ℕ → Cursor → List ℕ → Cursor → List ℕ → Type 0
Steps None held at half to next = Reaches held at half to next [] × (to.begun ≡ true)
Steps (Some s) held at half to next = Seeks s held at half to next
