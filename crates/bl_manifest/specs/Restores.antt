-- What reading a manifest gives.
use Rattle.std.specs.Prelude.{◌≡◌, ◌⊎◌, ℕ, ◌%◌, ◌^◌, ◌<◌, IfSome, List, [], ◌∷◌, ◌++◌, map, Option, None, Some, Ok, option_and_then}
use Rattle.std.specs.Result.{result_ok}
use Rattle.bl_site.specs.Disk.{Folder}
use Rattle.bl_names.specs.Names.{manifest_name}
use Rattle.bl_log.specs.Log.{records, placed_records, ending}
use Rattle.bl_edit.specs.Reading.{read_edit, no_field}
use Rattle.bl_edit.specs.declared.edit.Edit.{Edit}
use Rattle.bl_build.specs.Listing.{Listing}
use Rattle.bl_build.specs.Versions.{apply, version}
use Rattle.bl_build.specs.Restoring.{Restored, edits_of, last_given, standing_of, restored}

-- the records of these bytes restore this
abbrev pub Restores : List ℕ → Restored → Type 0
Restores bytes r = restored (records bytes) ≡ Some r

-- records without their places
abbrev pub payloads : List (List ℕ × ℕ) → List (List ℕ)
payloads found = map (λ r. r.0) found

-- the version behind a record, where it is an edit that fits
abbrev pub version_behind : Listing → List ℕ → Option Listing
version_behind base payload = option_and_then (λ e. result_ok (apply base e)) (result_ok (read_edit payload))

-- a record that is no edit, or whose edit does not fit, is the first such; the place is the one behind it, modulo 2 ^ 64
pub record BreaksOff (bytes : List ℕ) (place : ℕ) : Type 0 where
  pub passed : List (List ℕ × ℕ)
  pub payload : List ℕ
  pub behind : ℕ
  pub rest : List (List ℕ × ℕ)
  pub split : placed_records bytes ≡ passed ++ ((payload, behind) ∷ rest)
  pub edits : List Edit
  pub are : edits_of (payloads passed) ≡ Some edits
  pub base : Listing
  pub base_is : version edits ≡ Ok base
  pub stops : version_behind base payload ≡ None
  pub place_is : place ≡ behind % 2 ^ 64

-- all records are edits that fit, but a field is not known at the end, or the next file number is too great; the place is the one at which reading ends, modulo 2 ^ 64
pub record EndsShort (bytes : List ℕ) (place : ℕ) : Type 0 where
  pub edits : List Edit
  pub are : edits_of (records bytes) ≡ Some edits
  pub last : Listing
  pub last_is : version edits ≡ Ok last
  pub lacks : standing_of (last_given no_field edits) ≡ None
  pub place_is : place ≡ (ending bytes).0 % 2 ^ 64

-- the first fault of a manifest's bytes stands at this place
abbrev pub IsFaulty : List ℕ → ℕ → Type 0
IsFaulty bytes place = BreaksOff bytes place ⊎ EndsShort bytes place

-- the manifest of this number restores this
pub record HasRestored (folder : Folder) (number : ℕ) (r : Restored) : Type 0 where
  pub bytes : List ℕ
  pub there : folder (manifest_name number) ≡ Some bytes
  pub restores : Restores bytes r

-- it is not there, or is at fault at this place
abbrev pub IsDamaged : Folder → ℕ → ℕ → Type 0
IsDamaged folder number place =
    ((folder (manifest_name number) ≡ None) × (place ≡ 0))
    ⊎ ((bytes : List ℕ) × (folder (manifest_name number) ≡ Some bytes) × IsFaulty bytes place)

-- the version behind a record that is an edit that fits, with the single fields that are known then; none where it does not fit
abbrev pub Taken : Option Listing → List ℕ → Listing → Edit → Edit → Type 0
Taken (Some after) payload base known known_after =
    (e : Edit) × (read_edit payload ≡ Ok e) × (apply base e ≡ Ok after) × (known_after ≡ last_given known (e ∷ []))
Taken None payload base known known_after = version_behind base payload ≡ None

-- the last sequence, where it is known, is below 2 ^ 56
abbrev pub SequenceFits : Edit → Type 0
SequenceFits known = IfSome known.last_sequence (λ n. n < 2 ^ 56)
