-- What a folder asks of the system, call by call, and what is so of these calls.
use Rattle.std.specs.Prelude.{◌≡◌, ◌≢◌, ◌<◌, ◌⊎◌, ℕ, Bool, true, false, IsTrue, List, [], ◌∷◌, length, Option, None, Some, Result, Ok, Err}
use Rattle.std.specs.String.{string_bytes}
use Rattle.bl_site.specs.Disk.{Name}
use Rattle.bl_site_host.specs.declared.system.Found.{Found}
use Rattle.bl_site_host.specs.declared.system.Found.TheVariants.{Nothing, File, Other}
use Rattle.bl_site_host.specs.declared.system.Listed.{Listed}
use Rattle.bl_site_host.specs.declared.system.Listed.TheVariants as listed

-- One call with its answer: `None` or `false` where it failed. A number stands for an open file.
pub data Event : Type 0 where
  Looked : Name → Option Found → Event
  -- the entries of the folder, with the names of those that are regular files
  Listing : Option (List (Option Name)) → Event
  -- the list could not be gone through to its end
  ListingBroke : Event
  Opened : Name → Option ℕ → Event
  Made : Name → Option ℕ → Event
  -- from which offset, how many bytes at most, and which bytes
  Read : ℕ → ℕ → ℕ → Option (List ℕ) → Event
  Wrote : ℕ → List ℕ → Bool → Event
  SyncedFile : ℕ → Bool → Event
  SyncedFolder : Bool → Event
  Renamed : Name → Name → Bool → Event
  Removed : Name → Bool → Event

-- what a call answered, if it did not fail
abbrev pub answer_of : {T E : Type 0} → Result T E → Option T
answer_of (Ok x) = Some x
answer_of (Err _) = None

-- The newest call saw a regular file under the name, or nothing at all.
abbrev pub SawNoOther : Name → List Event → Type 0
SawNoOther name [] = ⊥
SawNoOther name (Looked seen (Some found) ∷ _) = (seen ≡ name) × (found ≢ Other)
SawNoOther name (_ ∷ _) = ⊥

-- Each name that was opened or made, or was to be, had been looked at just before, and no link, pipe, folder or device stood there.
abbrev pub IsCareful : List Event → Type 0
IsCareful [] = Unit {0}
IsCareful (Opened name _ ∷ older) = SawNoOther name older × IsCareful older
IsCareful (Made name _ ∷ older) = SawNoOther name older × IsCareful older
IsCareful (_ ∷ older) = IsCareful older

-- The open file was opened under this name, and no call since can have put another file there.
abbrev pub StandsUnder : Name → ℕ → List Event → Type 0
StandsUnder name id [] = ⊥
StandsUnder name id (Opened opened (Some file) ∷ older) = ((opened ≡ name) × (file ≡ id)) ⊎ StandsUnder name id older
StandsUnder name id (Made made _ ∷ older) = (made ≢ name) × StandsUnder name id older
StandsUnder name id (Renamed from to _ ∷ older) = (from ≢ name) × (to ≢ name) × StandsUnder name id older
StandsUnder name id (Removed removed _ ∷ older) = (removed ≢ name) × StandsUnder name id older
StandsUnder name id (_ ∷ older) = StandsUnder name id older

-- a sync has failed
abbrev pub SomeSyncFailed : List Event → Type 0
SomeSyncFailed [] = ⊥
SomeSyncFailed (SyncedFile _ false ∷ _) = Unit {0}
SomeSyncFailed (SyncedFolder false ∷ _) = Unit {0}
SomeSyncFailed (_ ∷ older) = SomeSyncFailed older

-- a folder that is marked as lost once a sync has failed stays so
abbrev pub StaysMarked : (was : List Event) → (lost : Bool) → (now : List Event) → (loses : Bool) → Type 0
StaysMarked was lost now loses = (SomeSyncFailed was → IsTrue lost) → SomeSyncFailed now → IsTrue loses

-- and one that is marked only then stays so too
abbrev pub StaysTrue : (was : List Event) → (lost : Bool) → (now : List Event) → (loses : Bool) → Type 0
StaysTrue was lost now loses = (IsTrue lost → SomeSyncFailed was) → IsTrue loses → SomeSyncFailed now

-- the newest call was this one, and was made since
abbrev pub IsNewest : Event → (old new : List Event) → Type 0
IsNewest call old new = (older : List Event) × (new ≡ call ∷ older) × (length old < length new)

-- the newest call was this one, made since, on an open file that stands under the name
pub record IsOn (name : Name) (call : ℕ → Event) (old new : List Event) : Type 0 where
  pub file : ℕ
  pub older : List Event
  pub newest : new ≡ call file ∷ older
  pub since : length old < length new
  pub stands : StandsUnder name file older

-- The name stands for a new, empty file, and both are on the disk.
pub record IsMade (name : Name) (calls : List Event) : Type 0 where
  pub file : ℕ
  pub older : List Event
  pub in_order : calls ≡ SyncedFolder true ∷ SyncedFile file true ∷ Made name (Some file) ∷ older

-- the newest call was this one, and then the folder was synced
pub record IsOnDisk (call : Event) (calls : List Event) : Type 0 where
  pub older : List Event
  pub in_order : calls ≡ SyncedFolder true ∷ call ∷ older

-- the names of the regular files among the entries
abbrev pub files_of : List (Option Name) → List Name
files_of [] = []
files_of (Some name ∷ entries) = name ∷ files_of entries
files_of (None ∷ entries) = files_of entries

-- what the next entry is, of those that are left
abbrev pub Gives : Listed → List (Option Name) → List (Option Name) → Type 0
Gives (listed.File name) old new = old ≡ Some (string_bytes name) ∷ new
Gives listed.Other old new = old ≡ None ∷ new
Gives listed.End old new = old ≡ []

-- what stands under a name that has this length, or none
abbrev pub found_of : Option ℕ → Found
found_of None = Nothing
found_of (Some length) = File length
