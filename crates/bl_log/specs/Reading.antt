-- A reader that is fed a log in pieces.
use Rattle.std.specs.Prelude.{◌≡◌, ℕ, ◌%◌, ◌^◌, List, [], ◌∷◌, ◌++◌, ◌⊎◌, Option, None, Some, Bool, true, false}
use Rattle.bl_log.specs.declared.cause.EndCause.{EndCause}
use Rattle.bl_log.specs.Log.{Step, Ends, Skips, Reads, walk, bytes_of, placed_from, placed_records, ending, IsDecided}

-- What a reader holds: the place behind the last fragment that it has read, modulo 2 ^ 64, what is half read there, the bytes fed from there on, whether no more follow, and the end that it has answered.
pub record Reading : Type 0 where
  pub place : ℕ
  pub half : Option (List ℕ)
  pub held : List ℕ
  pub closed : Bool
  pub ended : Option (ℕ × EndCause)

-- the last of these steps, if there is one, has read a fragment
abbrev pub IsRead : Step → Type 0
IsRead (Ends cause) = ⊥
IsRead (Skips size) = ⊥
IsRead (Reads whole next size) = Unit {0}

abbrev pub IsBehindFragment : List Step → Type 0
IsBehindFragment [] = Unit {0}
IsBehindFragment (step ∷ []) = IsRead step
IsBehindFragment (step ∷ next ∷ more) = IsBehindFragment (next ∷ more)

-- Reading the bytes fed, which found these records, ends at this place for this cause, and no further bytes can come or change it.
pub record HasEnded (fed : List ℕ) (found : List (List ℕ × ℕ)) (closed : Bool) (at : ℕ) (why : EndCause) : Type 0 where
  pub all_found : found ≡ placed_records fed
  pub place : at ≡ (ending fed).0 % 2 ^ 64
  pub cause : why ≡ (ending fed).1
  pub last : (closed ≡ true) ⊎ IsDecided fed

abbrev pub EndsAs : List ℕ → List (List ℕ × ℕ) → Bool → Option (ℕ × EndCause) → Type 0
EndsAs fed found closed None = Unit {0}
EndsAs fed found closed (Some end) = HasEnded fed found closed end.0 end.1

-- A reader was fed these bytes and has found these records, each with the place behind it. It stands behind the last fragment that it has read, and goes on from there whatever follows.
pub record HasRead (fed : List ℕ) (found : List (List ℕ × ℕ)) (reader : Reading) : Type 0 where
  pub passed : List Step
  pub walks : (more : List ℕ) → walk 0 0 None (fed ++ more) ≡ passed ++ walk 0 reader.place reader.half (reader.held ++ more)
  pub place : reader.place ≡ bytes_of passed % 2 ^ 64
  pub behind : IsBehindFragment passed
  pub finds : placed_from 0 passed ≡ found
  pub ended : EndsAs fed found reader.closed reader.ended

-- The bytes fed hold no other record, and don't decide what stands behind the last one.
pub record WantsMore (fed : List ℕ) (found : List (List ℕ × ℕ)) (reader : Reading) : Type 0 where
  pub reads : HasRead fed found reader
  pub all_found : found ≡ placed_records fed
  pub closed : reader.closed ≡ false
  pub undecided : IsDecided fed → ⊥

-- the next record, behind which the reader stands
pub record FindsNext (payload : List ℕ) (fed : List ℕ) (found : List (List ℕ × ℕ)) (reader : Reading) : Type 0 where
  pub place : ℕ
  pub reads : HasRead fed (found ++ (payload, place) ∷ []) reader
  pub stands : reader.place ≡ place % 2 ^ 64
