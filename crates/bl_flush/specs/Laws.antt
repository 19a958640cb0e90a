-- Laws of flushes.
use Rattle.std.specs.Prelude.{◌≡◌, ℕ, ◌≤◌, true, false, List}
use Rattle.bl_entry.specs.declared.key.Entry.{Entry}
use Rattle.bl_entry.specs.Kept.{kept}
use Rattle.bl_edit.specs.Options.{AreInRange, Values}
use Rattle.bl_out.specs.Made.{IsMade}
use Rattle.bl_flush.specs.Jobs.{ArePutsAndDeletions, added_of, next_of}

-- What is added of a memory are its kept entries, with numbers from one on.
pub record MakesKept (options : Values) (snapshots : List ℕ) (from : ℕ) (memory : List Entry) : Type 0 where
  pub made : IsMade from (next_of options snapshots from memory) (added_of options snapshots from memory)
  pub given : (added_of options snapshots from memory).given ≡ kept snapshots false memory
  pub one : (added_of options snapshots from memory).one_table ≡ true
  pub options_are : (added_of options snapshots from memory).options ≡ options
  pub above : from ≤ next_of options snapshots from memory

abbrev pub FlushesMakeKept : Type 0
FlushesMakeKept = (options : Values) (snapshots : List ℕ) (from : ℕ) (memory : List Entry) → AreInRange options → ArePutsAndDeletions memory → MakesKept options snapshots from memory
