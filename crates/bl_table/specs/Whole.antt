-- A whole table: the entries of its data blocks in the index's order, or its first fault.
use Rattle.std.specs.Prelude.{ℕ, ◌+◌, ◌-◌, ◌==◌, ◌&&◌, ◌||◌, nat_lt, nat_le, not, Bool, List, [], ◌∷◌, length, map, flat_map, take, drop, is_some, Option, None, Some, option_and_then, Result, Err, if◌then◌else◌}
use Rattle.std.specs.Int.{w64, from_le_bytes}
use Rattle.std.specs.Ordering.{is_lt}
use Rattle.bl_code.specs.Order.{key_order}
use Rattle.bl_code.specs.Reading.{Read, from_start}
use Rattle.bl_table.specs.declared.handle.Handle.{Handle}
use Rattle.bl_table.specs.declared.entry.BlockEntry.{BlockEntry}
use Rattle.bl_table.specs.declared.fault.TableRule.TheVariants as rule
use Rattle.bl_table.specs.Faults.{Fault, expect, unless, ◌or◌, ◌and◌}
use Rattle.bl_table.specs.Blocks.{Cell, Contents, block_at, entry_of, head_entry}
use Rattle.bl_table.specs.Table.{handle_at, ends_before}

-- the handle that was read, of a block that ends before the footer of a table of this size
abbrev pub named : ℕ → Read Handle → Option Handle
named size read = option_and_then (λ h. if ends_before (size - 48) h.0 then Some h.0 else None) read

-- the blocks that a footer's handles name, and its first fault
pub record Footer : Type 0 where
  pub meta : Option Handle
  pub index : Option Handle
  pub fault : Option Fault

-- the second handle can be at fault where the first one is spelled
abbrev pub second_fault : ℕ → Read Handle → Option Fault
second_fault size None = None
second_fault size (Some meta) = expect (is_some (named size (handle_at meta.1))) rule.Handle (size - 48 + meta.1.place)

-- the last 48 bytes of a table of this size
abbrev pub footer_in : ℕ → List ℕ → Footer
footer_in size bytes =
    let meta = handle_at (from_start (take 40 bytes)) in
    record {
      meta = named size meta;
      index = named size (option_and_then (λ h. handle_at h.1) meta);
      fault = expect (is_some (named size meta)) rule.Handle (size - 48) or second_fault size meta
          or expect (from_le_bytes w64 (drop 40 bytes) == 0xDB4775248B80FB57) rule.Magic (size - 8);
    }

-- the block of a handle, with its trailer
abbrev pub block_of : List ℕ → Handle → Contents
block_of bytes h = block_at h (take (h.size + 5) (drop h.offset bytes))

-- an entry of the metaindex block is a fault
abbrev pub no_entry : ℕ → List Cell → Option Fault
no_entry offset [] = None
no_entry offset (c ∷ cells) = Some (rule.Entry, offset + c.place)

abbrev pub meta_fault : List ℕ → Option Handle → Option Fault
meta_fault bytes None = None
meta_fault bytes (Some h) = (block_of bytes h).fault and no_entry h.offset (block_of bytes h).cells

abbrev pub index_fault : List ℕ → Option Handle → Option Fault
index_fault bytes None = None
index_fault bytes (Some h) = (block_of bytes h).fault

-- an index entry, by its place and key, and the data block that it names: its entries, and its first fault
pub record Data : Type 0 where
  pub place : ℕ
  pub key : List ℕ
  pub entries : List BlockEntry
  pub fault : Option Fault

-- the handle that an index entry's value is, to its end
abbrev pub data_handle : ℕ → List ℕ → Option Handle
data_handle size value = named size (option_and_then (λ h. if length h.1.left == 0 then Some h else None) (handle_at (from_start value)))

-- the entries of a data block
abbrev pub block_entries : List ℕ → Option Handle → List BlockEntry
block_entries bytes None = []
block_entries bytes (Some h) = map (entry_of h.offset) (block_of bytes h).cells

-- an index entry at this place names a block, which has an entry
abbrev pub block_fault : List ℕ → ℕ → Option Handle → Option Fault
block_fault bytes place None = Some (rule.Handle, place)
block_fault bytes place (Some h) = (block_of bytes h).fault and expect (not (block_of bytes h).bare) rule.Entry h.offset

abbrev pub data_at : List ℕ → ℕ → Cell → Data
data_at bytes offset c =
    let h = data_handle (length bytes) c.value in
    record { place = offset + c.place; key = c.key; entries = block_entries bytes h; fault = block_fault bytes (offset + c.place) h }

abbrev pub data_of : List ℕ → Option Handle → List Data
data_of bytes None = []
data_of bytes (Some h) = map (data_at bytes h.offset) (block_of bytes h).cells

-- Keys of at least eight bytes have an order. Of a shorter one only its length is a fault.
abbrev pub have_order : List ℕ → List ℕ → Bool
have_order a b = nat_le 8 (length a) && nat_le 8 (length b)

abbrev pub ascend : List ℕ → List ℕ → Bool
ascend a b = not (have_order a b) || is_lt (key_order a b)

abbrev pub descend : List ℕ → List ℕ → Bool
descend a b = have_order a b && is_lt (key_order b a)

abbrev pub last_entry : Option BlockEntry → List BlockEntry → Option BlockEntry
last_entry last [] = last
last_entry last (e ∷ entries) = last_entry (Some e) entries

-- an entry stands behind the one before it, also where that is the last one of another block
abbrev pub order_fault : Option BlockEntry → Option BlockEntry → Option Fault
order_fault None first = None
order_fault (Some last) None = None
order_fault (Some last) (Some first) = expect (ascend last.key first.key) rule.Order first.place

-- an index key stands at or behind the last key of its data block, and before the first key of the next one
abbrev pub last_fault : ℕ → List ℕ → Option BlockEntry → Option Fault
last_fault place key None = None
last_fault place key (Some last) = expect (not (descend last.key key)) rule.Order place

abbrev pub first_fault : ℕ → List ℕ → Option BlockEntry → Option Fault
first_fault place key None = None
first_fault place key (Some first) = expect (ascend key first.key) rule.Order place

abbrev pub next_fault : ℕ → List ℕ → List Data → Option Fault
next_fault place key [] = None
next_fault place key (d ∷ ds) = first_fault place key (head_entry d.entries)

-- the first fault of these data blocks and of the index entries that name them, behind entries of which this one is the last
unfoldable pub data_fault : Option BlockEntry → List Data → Option Fault
data_fault last [] = None
data_fault last (d ∷ ds) =
    order_fault last (head_entry d.entries) and last_fault d.place d.key (last_entry None d.entries) and d.fault
    and next_fault d.place d.key ds and data_fault (last_entry last d.entries) ds

-- all faults of a table with this footer
abbrev pub table_fault : List ℕ → Footer → Option Fault
table_fault bytes footer =
    footer.fault and meta_fault bytes footer.meta and index_fault bytes footer.index and data_fault None (data_of bytes footer.index)

abbrev pub entries_with : List ℕ → Footer → Result (List BlockEntry) Fault
entries_with bytes footer = unless (table_fault bytes footer) (flat_map (λ (d : Data). d.entries) (data_of bytes footer.index))

unfoldable pub read_table : List ℕ → Result (List BlockEntry) Fault
read_table bytes =
    if nat_lt (length bytes) 48 then Err (rule.Length, 0)
    else entries_with bytes (footer_in (length bytes) (drop (length bytes - 48) bytes))
