-- What a writer of tables holds.
use Rattle.std.specs.Prelude.{◌≡◌, ℕ, ◌+◌, ◌%◌, ◌^◌, List, [], ◌++◌, length}
use Rattle.bl_table.specs.Spelling.{Item, entry_at, restart_here, entries_from, restarts_from, or_zero, closed, cut, behind, data_bytes, last_key, index_from}

-- bytes that more bytes may follow
pub record Grows (old new : List ℕ) : Type 0 where
  pub more : List ℕ
  pub is : new ≡ old ++ more

-- A block in the making: its entries and restarts so far, how many entries stand behind the last one whose number 16 divides, and the last key.
pub record Writing : Type 0 where
  pub bytes : List ℕ
  pub restarts : List ℕ
  pub count : ℕ
  pub last : List ℕ

abbrev pub nothing : Writing
nothing = record { bytes = []; restarts = []; count = 0; last = [] }

abbrev pub item : List ℕ → List ℕ → Item
item key value = record { key = key; value = value }

-- the same with one more entry
abbrev pub written : Writing → Item → Writing
written w i = record {
  bytes = w.bytes ++ entry_at w.count (length w.bytes) w.last i;
  restarts = w.restarts ++ restart_here w.count (length w.bytes);
  count = (w.count + 1) % 16;
  last = i.key;
}

-- the block that it is
abbrev pub block_of : Writing → List ℕ
block_of w = closed w.bytes (or_zero w.restarts)

-- these items stand in it, whatever is added
pub record Holds (items : List Item) (w : Writing) : Type 0 where
  pub number : ℕ
  pub count : w.count ≡ number % 16
  pub last : w.last ≡ last_key items
  pub entries : (more : List Item) → entries_from 0 0 [] (items ++ more) ≡ w.bytes ++ entries_from number (length w.bytes) w.last more
  pub restarts : (more : List Item) → restarts_from 0 0 [] (items ++ more) ≡ w.restarts ++ restarts_from number (length w.bytes) w.last more

-- a table in the making: the block in hand, the index of the complete ones, and where the next block begins, modulo 2 ^ 64
pub record Building : Type 0 where
  pub block : Writing
  pub index : Writing
  pub offset : ℕ

-- These items were added to a table, and these bytes given of it, which are its complete blocks.
pub record HasAdded (items : List Item) (given : List ℕ) (b : Building) : Type 0 where
  pub blocks : List (List Item)
  pub hand : List Item
  pub cuts : (more : List Item) → cut [] (items ++ more) ≡ behind blocks (cut hand more)
  pub given_is : given ≡ data_bytes blocks
  pub block : Holds hand b.block
  pub index : Holds (index_from 0 blocks) b.index
  pub offset : b.offset ≡ length given % 2 ^ 64
