-- What ties the reading of tables to their building.
use Rattle.std.specs.Prelude.{◌≡◌, ℕ, ◌+◌, ◌^◌, ◌<◌, ◌≤◌, true, List, [], ◌∷◌, length, map, Option, None, Some, Result, Ok, Err}
use Rattle.bl_table.specs.declared.entry.BlockEntry.{BlockEntry}
use Rattle.bl_table.specs.Faults.{Fault}
use Rattle.bl_table.specs.Blocks.{stands_behind}
use Rattle.bl_table.specs.Spelling.{Item, table}
use Rattle.bl_table.specs.Whole.{read_table}

-- Entries that ascend, behind one that may stand before them: each key has at least nine bytes, and key and value have together fewer than 2 ^ 31.
abbrev pub Ascend : Option (List ℕ) → List Item → Type 0
Ascend before [] = Unit {0}
Ascend before (i ∷ items) = (9 ≤ length i.key) × (length i.key + length i.value < 2 ^ 31) × (stands_behind before i.key ≡ true) × Ascend (Some i.key) items

abbrev pub item_of : BlockEntry → Item
item_of e = record { key = e.key; value = e.value }

-- the keys and values of what was read
abbrev pub HasItems : List Item → Result (List BlockEntry) Fault → Type 0
HasItems items (Ok entries) = map item_of entries ≡ items
HasItems items (Err fault) = ⊥

-- the table of ascending entries is read as these entries
abbrev pub ReadsBuilt : Type 0
ReadsBuilt = (items : List Item) → Ascend None items → length (table items) < 2 ^ 64 → HasItems items (read_table (table items))
