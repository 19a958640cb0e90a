-- What ties reading to writing.
use Rattle.std.specs.Prelude.{◌≡◌, List, ℕ, Ok}
use Rattle.bl_edit.specs.declared.edit.Edit.{Edit}
use Rattle.bl_edit.specs.Bounds.{IsEdit, FitsWords}
use Rattle.bl_edit.specs.Spelling.{edit_bytes}
use Rattle.bl_edit.specs.Reading.{read_edit}

-- what is written is read again
abbrev pub ReadsWritten : Type 0
ReadsWritten = (e : Edit) → IsEdit e → FitsWords e → read_edit (edit_bytes e) ≡ Ok e

-- what is read is in bounds
abbrev pub ReadsInBounds : Type 0
ReadsInBounds = (bytes : List ℕ) (e : Edit) → read_edit bytes ≡ Ok e → IsEdit e × FitsWords e
