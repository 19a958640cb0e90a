-- How a writer lays a table out.
use Rattle.std.specs.Prelude.{ℕ, suc, ◌+◌, ◌-◌, ◌%◌, ◌^◌, ◌==◌, ◌&&◌, nat_lt, nat_le, Bool, true, false, List, [], ◌∷◌, ◌++◌, length, drop, replicate, flat_map, if◌then◌else◌}
use Rattle.bl_code.specs.Numbers.{fixed32, fixed64, varint32, varint64}
use Rattle.bl_code.specs.Crc.{crc32c, mask_of}

-- the bytes of a key and of its value
pub record Item : Type 0 where
  pub key : List ℕ
  pub value : List ℕ

-- how many bytes two keys have in common at the front
abbrev pub common : List ℕ → List ℕ → ℕ
common [] b = 0
common (x ∷ a) [] = 0
common (x ∷ a) (y ∷ b) = if x == y then suc (common a b) else 0

unfoldable pub entry : ℕ → List ℕ → List ℕ → List ℕ
entry shared key value = varint32 shared ++ (varint32 (length key - shared) ++ (varint32 (length value) ++ (drop shared key ++ value)))

-- every 16th entry, from the first, is a restart and shares nothing, where it begins below 2 ^ 32
abbrev pub is_restart : ℕ → ℕ → Bool
is_restart n at = (n % 16 == 0) && nat_lt at (2 ^ 32)

-- the bytes that the n-th entry of a block, at a place behind a key, shares with it
abbrev pub shared_at : ℕ → ℕ → List ℕ → List ℕ → ℕ
shared_at n at before key = if is_restart n at then 0 else common before key

abbrev pub entry_at : ℕ → ℕ → List ℕ → Item → List ℕ
entry_at n at before i = entry (shared_at n at before i.key) i.key i.value

-- the entries of a block from the n-th on, at a place, behind a key; and the restarts among them
unfoldable pub entries_from : ℕ → ℕ → List ℕ → List Item → List ℕ
entries_from n at before [] = []
entries_from n at before (i ∷ items) = entry_at n at before i ++ entries_from (suc n) (at + length (entry_at n at before i)) i.key items

abbrev pub restart_here : ℕ → ℕ → List ℕ
restart_here n at = if is_restart n at then at ∷ [] else []

unfoldable pub restarts_from : ℕ → ℕ → List ℕ → List Item → List ℕ
restarts_from n at before [] = []
restarts_from n at before (i ∷ items) = restart_here n at ++ restarts_from (suc n) (at + length (entry_at n at before i)) i.key items

-- a block without a restart has the one restart 0
abbrev pub or_zero : List ℕ → List ℕ
or_zero [] = 0 ∷ []
or_zero (r ∷ rs) = r ∷ rs

-- entries, restarts and their count
abbrev pub closed : List ℕ → List ℕ → List ℕ
closed entries restarts = entries ++ (flat_map fixed32 restarts ++ fixed32 (length restarts))

unfoldable pub block : List Item → List ℕ
block items = closed (entries_from 0 0 [] items) (or_zero (restarts_from 0 0 [] items))

unfoldable pub with_trailer : List ℕ → List ℕ
with_trailer bytes = bytes ++ (0 ∷ fixed32 (mask_of (crc32c (bytes ++ 0 ∷ []))))

-- a data block is complete once it takes at least 4096 bytes
abbrev pub is_complete : List Item → Bool
is_complete items = nat_le 4096 (length (block items))

-- complete blocks, and what stands in the block in hand
pub record Cuts : Type 0 where
  pub blocks : List (List Item)
  pub hand : List Item

abbrev pub behind : List (List Item) → Cuts → Cuts
behind blocks cuts = record { blocks = blocks ++ cuts.blocks; hand = cuts.hand }

-- the same once these items follow those in hand
unfoldable pub cut : List Item → List Item → Cuts
cut hand [] = record { blocks = []; hand = hand }
cut hand (i ∷ items) = elim (is_complete (hand ++ i ∷ [])) [ true ↦ behind ((hand ++ i ∷ []) ∷ []) (cut [] items) | false ↦ cut (hand ++ i ∷ []) items ]

-- the blocks of a table, of which the last need not be complete
abbrev pub and_last : List Item → List (List Item)
and_last [] = []
and_last (i ∷ hand) = (i ∷ hand) ∷ []

abbrev pub blocks_of : List Item → List (List Item)
blocks_of items = let cuts = cut [] items in cuts.blocks ++ and_last cuts.hand

abbrev pub data_bytes : List (List Item) → List ℕ
data_bytes blocks = flat_map (λ items. with_trailer (block items)) blocks

abbrev pub handle : ℕ → ℕ → List ℕ
handle offset size = varint64 offset ++ varint64 size

abbrev pub last_key : List Item → List ℕ
last_key [] = []
last_key (i ∷ []) = i.key
last_key (i ∷ j ∷ items) = last_key (j ∷ items)

-- an entry for each data block from a place on: its last key, and its handle, whose offset counts modulo 2 ^ 64
abbrev pub index_item : ℕ → List Item → Item
index_item at items = record { key = last_key items; value = handle (at % 2 ^ 64) (length (block items)) }

unfoldable pub index_from : ℕ → List (List Item) → List Item
index_from at [] = []
index_from at (items ∷ blocks) = index_item at items ∷ index_from (at + length (with_trailer (block items))) blocks

abbrev pub footer : ℕ → ℕ → ℕ → List ℕ
footer meta index size = let handles = handle meta 8 ++ handle index size in handles ++ (replicate (40 - length handles) 0 ++ fixed64 0xDB4775248B80FB57)

-- data blocks, an empty metaindex block, the index block, and the footer
abbrev pub closing : ℕ → List ℕ → List ℕ
closing at index = with_trailer (block []) ++ (with_trailer index ++ footer (at % 2 ^ 64) ((at + 13) % 2 ^ 64) (length index))

unfoldable pub table : List Item → List ℕ
table items = let blocks = blocks_of items in data_bytes blocks ++ closing (length (data_bytes blocks)) (block (index_from 0 blocks))
