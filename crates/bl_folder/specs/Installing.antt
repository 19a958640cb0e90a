-- What a manifest restores with one edit more.
use Rattle.std.specs.Prelude.{◌≡◌, ℕ, ◌^◌, ◌≤◌, List, [], ◌∷◌, ◌++◌, unwrap_or, Some, Ok}
use Rattle.bl_entry.specs.declared.key.Entry.{Entry}
use Rattle.bl_edit.specs.declared.edit.Edit.{Edit}
use Rattle.bl_edit.specs.Bounds.{FitsWords, IsEdit}
use Rattle.bl_edit.specs.Reading.{read_edit}
use Rattle.bl_edit.specs.Spelling.{edit_bytes}
use Rattle.bl_build.specs.declared.meta.Standing.{Standing}
use Rattle.bl_build.specs.Listing.{Listing}
use Rattle.bl_build.specs.Restoring.{Restored, restored}
use Rattle.bl_build.specs.Versions.{apply}
use Rattle.bl_out.specs.Flushes.{Flushed}
use Rattle.bl_folder.specs.Holding.{Holding}
use Rattle.bl_folder.specs.Flushes.{IsFlushOf, IsWhole, edit_for, installed}

-- What stands beside a version behind an edit: of each field what the edit gives, or else what was given before.
abbrev pub standing_behind : Standing → Edit → Standing
standing_behind s e = record {
  log_number = unwrap_or e.log_number s.log_number;
  next_file = unwrap_or e.next_file s.next_file;
  last_sequence = unwrap_or e.last_sequence s.last_sequence;
  options = unwrap_or e.options s.options;
}

-- Records and one more that is an edit, which is applied, restore, where the next file number is at most 10 ^ 15 then, the version behind it and what stands beside that.
abbrev pub OneEditMore : Type 0
OneEditMore = (rs : List (List ℕ)) (live : Restored) (bytes : List ℕ) (e : Edit) (v : Listing) → restored rs ≡ Some live → read_edit bytes ≡ Ok e → apply live.version e ≡ Ok v → (standing_behind live.standing e).next_file ≤ 10 ^ 15
    → restored (rs ++ bytes ∷ []) ≡ Some (record { version = v; standing = standing_behind live.standing e })

-- So a manifest with the edit of a flush, in bounds, behind its others restores what is installed then.
abbrev pub FlushesRestore : Type 0
FlushesRestore = (rs : List (List ℕ)) (h : Holding) (count from log next : ℕ) (snapshots : List ℕ) (memory : List Entry) (f : Flushed) → restored rs ≡ Some h.live → IsWhole h → IsFlushOf h count from snapshots memory f
    → IsEdit (edit_for h count log next f) → FitsWords (edit_for h count log next f) → next ≤ 10 ^ 15
    → restored (rs ++ edit_bytes (edit_for h count log next f) ∷ []) ≡ Some (installed h count log next f).live
