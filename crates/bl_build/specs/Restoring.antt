-- What the records of a manifest restore.
use Rattle.std.specs.Prelude.{ℕ, ◌^◌, ◌||◌, nat_le, List, [], ◌∷◌, Option, None, Some, option_and_then, if◌then◌else◌}
use Rattle.std.specs.Result.{result_ok}
use Rattle.bl_edit.specs.declared.edit.Edit.{Edit}
use Rattle.bl_edit.specs.Reading.{read_edit, no_field}
use Rattle.bl_build.specs.declared.meta.Standing.{Standing}
use Rattle.bl_build.specs.Listing.{Listing}
use Rattle.bl_build.specs.Versions.{version}

-- the records as edits, where each is one
abbrev pub edits_of : List (List ℕ) → Option (List Edit)
edits_of [] = Some []
edits_of (bytes ∷ more) = option_and_then (λ e. option_and_then (λ es. Some (e ∷ es)) (edits_of more)) (result_ok (read_edit bytes))

-- the later one, where it is given
abbrev pub or_before : {A : Type 0} → Option A → Option A → Option A
or_before before None = before
or_before before (Some x) = Some x

-- the single fields, each as it was given last
abbrev pub last_given : Edit → List Edit → Edit
last_given known [] = known
last_given known (e ∷ es) = last_given (record known {
  comparator = e.comparator || known.comparator;
  log_number = or_before known.log_number e.log_number;
  next_file = or_before known.next_file e.next_file;
  last_sequence = or_before known.last_sequence e.last_sequence;
  options = or_before known.options e.options;
}) es

-- all of them known, and the next file number one that a file may have, or one behind
abbrev pub standing_of : Edit → Option Standing
standing_of known = if known.comparator then
    option_and_then (λ log. option_and_then (λ next. option_and_then (λ last. option_and_then (λ options.
    if nat_le next (10 ^ 15) then Some (record { log_number = log; next_file = next; last_sequence = last; options = options }) else None)
    known.options) known.last_sequence) known.next_file) known.log_number
    else None

-- a version, and what stands beside it
pub record Restored : Type 0 where
  pub version : Listing
  pub standing : Standing

-- what edits restore, one after another from nothing
abbrev pub restored_by : List Edit → Option Restored
restored_by edits = option_and_then (λ v. option_and_then (λ s. Some (record { version = v; standing = s })) (standing_of (last_given no_field edits))) (result_ok (version edits))

-- what the records of a manifest restore
unfoldable pub restored : List (List ℕ) → Option Restored
restored records = option_and_then restored_by (edits_of records)
