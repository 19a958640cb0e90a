-- A whole table, block by block: a relation between the bytes of a file and an ascending list of entries.
use Rattle.std.specs.Prelude.{◌≡◌, ℕ, ◌+◌, ◌-◌, ◌≤◌, ◌↔◌, true, false, List, [], ◌∷◌, length, flat_map, take, drop, Option, None, Some, Ok}
use Rattle.bl_table.specs.declared.entry.BlockEntry.{BlockEntry}
use Rattle.bl_table.specs.declared.handle.Handle.{Handle}
use Rattle.bl_table.specs.Blocks.{read_block, stands_behind}
use Rattle.bl_table.specs.Table.{read_footer}
use Rattle.bl_table.specs.Whole.{data_handle, ascend, descend, read_table}

-- the bytes of a handle's block and of its trailer
abbrev pub bytes_of : List ℕ → Handle → List ℕ
bytes_of bytes h = take (h.size + 5) (drop h.offset bytes)

abbrev pub last_of : BlockEntry → List BlockEntry → BlockEntry
last_of e [] = e
last_of e (x ∷ entries) = last_of x entries

-- a key stands before the first one of the next block
abbrev pub IsBelow : List ℕ → List (List BlockEntry) → Type 0
IsBelow key [] = Unit {0}
IsBelow key ([] ∷ bs) = Unit {0}
IsBelow key ((e ∷ entries) ∷ bs) = ascend key e.key ≡ true

-- The blocks that these index entries name, one for each, none of them empty. An index key stands at or behind the last key of its block, and before the first one of the next.
abbrev pub AreBlocks : List ℕ → List BlockEntry → List (List BlockEntry) → Type 0
AreBlocks bytes [] [] = Unit {0}
AreBlocks bytes [] (b ∷ bs) = ⊥
AreBlocks bytes (i ∷ is) [] = ⊥
AreBlocks bytes (i ∷ is) ([] ∷ bs) = ⊥
AreBlocks bytes (i ∷ is) ((e ∷ entries) ∷ bs) =
    ((h : Handle) × (data_handle (length bytes) i.value ≡ Some h) × (read_block (bytes_of bytes h) h ≡ Ok (e ∷ entries)))
    × (descend (last_of e entries).key i.key ≡ false) × IsBelow i.key bs × AreBlocks bytes is bs

-- each key has at least nine bytes, and stands behind the one before it, if there is one
abbrev pub KeysAscend : Option (List ℕ) → List BlockEntry → Type 0
KeysAscend before [] = Unit {0}
KeysAscend before (e ∷ entries) = (9 ≤ length e.key) × (stands_behind before e.key ≡ true) × KeysAscend (Some e.key) entries

-- The footer names an empty metaindex block and an index block, whose entries name the data blocks. All other bytes are free.
pub record IsTable (bytes : List ℕ) (entries : List BlockEntry) : Type 0 where
  pub meta : Handle
  pub index : Handle
  pub footer : read_footer (drop (length bytes - 48) bytes) (length bytes) ≡ Ok (meta, index)
  pub empty : read_block (bytes_of bytes meta) meta ≡ Ok []
  pub names : List BlockEntry
  pub names_are : read_block (bytes_of bytes index) index ≡ Ok names
  pub blocks : List (List BlockEntry)
  pub blocks_are : AreBlocks bytes names blocks
  pub entries_are : flat_map (λ (b : List BlockEntry). b) blocks ≡ entries
  pub ascending : KeysAscend None entries

-- bytes are read as a list of entries exactly where they are the table of it
abbrev pub ReadsTables : Type 0
ReadsTables = (bytes : List ℕ) (entries : List BlockEntry) → (read_table bytes ≡ Ok entries) ↔ IsTable bytes entries
