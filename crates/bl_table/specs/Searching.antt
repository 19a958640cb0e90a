-- Where a search in a block begins.
use Rattle.std.specs.Prelude.{◌≡◌, ℕ, ◌≤◌, List, [], length, map, take, drop, Option, None}
use Rattle.bl_code.specs.Reading.{Input}
use Rattle.bl_table.specs.declared.entry.BlockEntry.{BlockEntry}
use Rattle.bl_table.specs.Blocks.{Cell, cells_at, cells_in, entry_fault, entry_of, contents}

abbrev pub at_place : ℕ → List ℕ → Input
at_place place bytes = record { place = place; left = drop place bytes }

-- the entries from a place on, of which the first shares nothing
abbrev pub cells_behind : ℕ → List ℕ → List Cell
cells_behind place bytes = (cells_at (length bytes) [] (at_place place bytes)).cells

-- what is sought among all entries is found among those from a place on
pub record Begins (seek : List BlockEntry → Option BlockEntry) (offset : ℕ) (bytes : List ℕ) (place : ℕ) : Type 0 where
  pub within : place ≤ length bytes
  pub good : entry_fault offset None (cells_behind place bytes) ≡ None
  pub same : seek (map (entry_of offset) (cells_behind place bytes)) ≡ seek (map (entry_of offset) (cells_in bytes).cells)

-- the same, where the block of these bytes has no fault
abbrev pub BeginsAt : (List BlockEntry → Option BlockEntry) → List ℕ → ℕ → ℕ → ℕ → Type 0
BeginsAt seek bytes limit count place = (offset : ℕ) → (contents offset bytes limit count).fault ≡ None → Begins seek offset (take limit bytes) place
