-- The files that a folder keeps open, against the calls that it made.
use Rattle.std.specs.Prelude.{◌≡◌, ℕ, ◌<◌, true, List, ◌∷◌, length, slice_index_or, All}
use Rattle.std.specs.String.{string_bytes}
use Rattle.bl_site.specs.Disk.{Name}
use Rattle.bl_site_host.specs.Events.{Event, SyncedFile, IsCareful, StandsUnder}
use Rattle.bl_site_host.specs.declared.handles.Handle.{Handle}

-- the file at this place is kept under this name
abbrev pub IsPlaceOf : {F : Type 0} → Name → List (Handle F) → ℕ → Type 0
IsPlaceOf name handles at = (at < length handles) × ((d : _) → string_bytes (slice_index_or handles at d).name ≡ name)

-- each file that is kept open stands under the name that it is kept under
abbrev pub AllStand : {F : Type 0} → (F → ℕ) → List Event → List (Handle F) → Type 0
AllStand id calls handles = All (λ handle. StandsUnder (string_bytes handle.name) (id handle.file) calls) handles

-- what is so of a folder from its beginning on, whatever its calls answer
pub record IsSound {F : Type 0} (id : F → ℕ) (calls : List Event) (handles : List (Handle F)) : Type 0 where
  pub careful : IsCareful calls
  pub stand : AllStand id calls handles

-- so it stays
abbrev pub StaysSound : {F : Type 0} → (F → ℕ) → (was : List Event) → (kept : List (Handle F)) → (now : List Event) → (keeps : List (Handle F)) → Type 0
StaysSound id was kept now keeps = IsSound id was kept → IsSound id now keeps

-- The oldest file was let go, after it was synced if bytes had been appended to it. The others are kept.
pub record OldestIsLetGo {F : Type 0} (id : F → ℕ) (was : List Event) (kept : List (Handle F)) (now : List Event) (keeps : List (Handle F)) : Type 0 where
  pub oldest : Handle F
  pub others : kept ≡ oldest ∷ keeps
  pub synced : oldest.unsynced ≡ true → now ≡ SyncedFile (id oldest.file) true ∷ was
