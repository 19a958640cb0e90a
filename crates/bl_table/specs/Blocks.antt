-- A block: entries, restarts and their count. Entries are read from left to right; places count from the block's beginning.
use Rattle.std.specs.Prelude.{ℕ, zero, suc, ◌+◌, ◌-◌, ◌*◌, ◌^◌, ◌==◌, ◌&&◌, nat_lt, nat_le, not, Bool, true, false, List, [], ◌∷◌, ◌++◌, length, map, take, drop, slice_index, Option, None, Some, option_and_then, Result, if◌then◌else◌}
use Rattle.std.specs.Int.{w32, from_le_bytes}
use Rattle.std.specs.Ordering.{is_lt}
use Rattle.bl_code.specs.Crc.{crc32c, mask_of}
use Rattle.bl_code.specs.Order.{key_order}
use Rattle.bl_code.specs.Reading.{Input, Read, from_start, take_bytes, take_varint32}
use Rattle.bl_table.specs.declared.entry.BlockEntry.{BlockEntry}
use Rattle.bl_table.specs.declared.handle.Handle.{Handle}
use Rattle.bl_table.specs.declared.fault.TableRule.TheVariants.{Length, Kind, Crc, Restart, Entry, Order}
use Rattle.bl_table.specs.Faults.{Fault, expect, ◌or◌, ◌and◌, unless}

-- an entry: where it begins, how many bytes its key shares with the key before, and what it holds
pub record Cell : Type 0 where
  pub place : ℕ
  pub shared : ℕ
  pub key : List ℕ
  pub value : List ℕ

-- the lengths of an entry's shared and unshared key bytes and of its value
pub record Head : Type 0 where
  pub shared : ℕ
  pub unshared : ℕ
  pub size : ℕ

abbrev pub head_at : Input → Read Head
head_at input =
    option_and_then (λ shared. option_and_then (λ unshared. option_and_then (λ size.
    Some (record { shared = shared.0; unshared = unshared.0; size = size.0 }, size.1))
    (take_varint32 unshared.1)) (take_varint32 shared.1)) (take_varint32 input)

-- what stands behind a head: the unshared bytes and the value, of an entry behind one of this key
abbrev pub cell_of : List ℕ → ℕ → Head → Input → Read Cell
cell_of before place head input =
    option_and_then (λ suffix. option_and_then (λ value.
    if nat_le head.shared (length before) then Some (record { place = place; shared = head.shared; key = take head.shared before ++ suffix.0; value = value.0 }, value.1) else None)
    (take_bytes head.size suffix.1)) (take_bytes head.unshared input)

unfoldable pub cell_at : List ℕ → Input → Read Cell
cell_at before input = option_and_then (λ head. cell_of before input.place head.0 head.1) (head_at input)

-- the entries up to the first that is none, and the place of that one
pub record Cells : Type 0 where
  pub cells : List Cell
  pub stop : Option ℕ

abbrev pub and_cell : Cell → Cells → Cells
and_cell c more = record { cells = c ∷ more.cells; stop = more.stop }

abbrev pub nothing_left : Cells
nothing_left = record { cells = []; stop = None }

-- of at most so many entries
unfoldable pub cells_at : ℕ → List ℕ → Input → Cells
cells_at zero before input = nothing_left
cells_at (suc n) before input = elim (nat_lt 0 (length input.left)) [
  | false ↦ nothing_left
  | true ↦ elim (cell_at before input) [ None ↦ record { cells = []; stop = Some input.place } | Some c ↦ and_cell c.0 (cells_at n c.0.key c.1) ]
]

abbrev pub cells_in : List ℕ → Cells
cells_in bytes = cells_at (length bytes) [] (from_start bytes)

-- the little-endian number of four bytes at a place
abbrev pub number_at : List ℕ → ℕ → ℕ
number_at bytes place = from_le_bytes w32 (take 4 (drop place bytes))

-- little-endian numbers of four bytes each
unfoldable pub numbers_in : ℕ → List ℕ → List ℕ
numbers_in zero bytes = []
numbers_in (suc n) bytes = from_le_bytes w32 (take 4 bytes) ∷ numbers_in n (drop 4 bytes)

abbrev pub stands_behind : Option (List ℕ) → List ℕ → Bool
stands_behind None key = true
stands_behind (Some before) key = is_lt (key_order before key)

-- the first entry whose key is shorter than nine bytes, or doesn't stand behind the key before it
unfoldable pub entry_fault : ℕ → Option (List ℕ) → List Cell → Option Fault
entry_fault offset before [] = None
entry_fault offset before (c ∷ cells) =
    if not (nat_le 9 (length c.key)) then Some (Entry, offset + c.place)
    else if not (stands_behind before c.key) then Some (Order, offset + c.place)
    else entry_fault offset (Some c.key) cells

abbrev pub stop_fault : ℕ → Option ℕ → Option Fault
stop_fault offset None = None
stop_fault offset (Some place) = Some (Entry, offset + place)

-- Restarts behind the first, each of which is to be where a further entry begins that shares nothing: those that are left once the entries are passed.
unfoldable pub restarts_left : List Cell → List ℕ → List ℕ
restarts_left [] rs = rs
restarts_left (c ∷ cells) [] = []
restarts_left (c ∷ cells) (r ∷ rs) = if (nat_lt 0 c.place && (c.place == r)) && (c.shared == 0) then restarts_left cells rs else restarts_left cells (r ∷ rs)

-- the first of n restarts is 0; the first that is left of the others is at fault
abbrev pub restart_fault : ℕ → ℕ → List Cell → List ℕ → Option Fault
restart_fault place n cells [] = None
restart_fault place n cells (r ∷ rs) =
    let left = length (restarts_left cells rs) in
    expect (r == 0) Restart place or expect (left == 0) Restart (place + 4 * (n - left))

-- what a block holds, whether its restarts leave no byte for an entry, and its first fault
pub record Contents : Type 0 where
  pub cells : List Cell
  pub bare : Bool
  pub fault : Option Fault

abbrev pub faulty : Fault → Contents
faulty fault = record { cells = []; bare = false; fault = Some fault }

-- the entries of a block at this offset, and its restarts, which begin at a limit
abbrev pub contents : ℕ → List ℕ → ℕ → ℕ → Contents
contents offset bytes limit count =
    let read = cells_in (take limit bytes) in
    record {
      cells = read.cells;
      bare = limit == 0;
      fault = entry_fault offset None read.cells or stop_fault offset read.stop or restart_fault (offset + limit) count read.cells (numbers_in count (drop limit bytes));
    }

-- the same, where the bytes have room for the count of restarts at their end, and for the restarts
unfoldable pub block_in : ℕ → List ℕ → Contents
block_in offset bytes =
    let at = length bytes - 4 in
    let count = number_at bytes at in
    if nat_lt (length bytes) 4 then faulty (Restart, offset)
    else if not (nat_lt 0 count && nat_le (4 * count) at) then faulty (Restart, offset + at)
    else contents offset bytes (at - 4 * count) count

-- the trailer: type 0, and the checksum of the block and the type
abbrev pub trailer_fault : ℕ → List ℕ → List ℕ → Option Fault
trailer_fault place bytes trailer =
    expect (slice_index trailer 0 == 0) Kind place
    or expect (number_at trailer 1 == mask_of (crc32c (bytes ++ slice_index trailer 0 ∷ []))) Crc (place + 1)

-- A block of this handle, with its trailer. In a block of no bytes both may be at fault at one place, where the order of the rules decides.
unfoldable pub block_at : Handle → List ℕ → Contents
block_at h bytes =
    let block = block_in h.offset (take h.size bytes) in
    if not ((length bytes == h.size + 5) && nat_lt (h.offset + h.size + 5) (2 ^ 64)) then faulty (Length, h.offset)
    else record block { fault = block.fault and trailer_fault (h.offset + h.size) (take h.size bytes) (drop h.size bytes) }

abbrev pub entry_of : ℕ → Cell → BlockEntry
entry_of offset c = record { place = offset + c.place; key = c.key; value = c.value }

-- the entries of a block, or its first fault
abbrev pub read_block : List ℕ → Handle → Result (List BlockEntry) Fault
read_block bytes h = let block = block_at h bytes in unless block.fault (map (entry_of h.offset) block.cells)

-- the first entry at or behind a key
abbrev pub first_from : List ℕ → List BlockEntry → Option BlockEntry
first_from from [] = None
first_from from (e ∷ entries) = if is_lt (key_order e.key from) then first_from from entries else Some e

abbrev pub head_entry : List BlockEntry → Option BlockEntry
head_entry [] = None
head_entry (e ∷ entries) = Some e

-- the entry that follows the one at a place
abbrev pub next_after : ℕ → List BlockEntry → Option BlockEntry
next_after place [] = None
next_after place (e ∷ entries) = if e.place == place then head_entry entries else next_after place entries
