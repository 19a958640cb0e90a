-- The definitions at small tables, against bytes and numbers typed in.
use Rattle.std.proofs.Common.{◌≡◌, [], ◌∷◌, length, refl, take, drop, Ok, Err}
use Rattle.std.specs.Prelude.{slice_set, replicate}
use Rattle.bl_code.specs.Numbers.{fixed32, fixed64, varint}
use Rattle.bl_code.specs.Crc.{crc_bits, crc_after, mask_of}
use Rattle.bl_code.specs.Reading.{take_bytes, varint_in}
use Rattle.bl_table.specs.declared.fault.TableRule.TheVariants as rule
use Rattle.bl_table.specs.Spelling.{Item, table, block, entry, entries_from, restarts_from, cut, index_from, with_trailer}
use Rattle.bl_table.specs.Blocks.{cell_at, cells_at, block_in, block_at, numbers_in, entry_fault, restarts_left, read_block}
use Rattle.bl_table.specs.Table.{read_footer}

-- the internal key of a with the sequence 1 and the kind 0x11, and a blob index
one : Item
one = record { key = 97 ∷ 0x11 ∷ 1 ∷ 0 ∷ 0 ∷ 0 ∷ 0 ∷ 0 ∷ 0 ∷ []; value = 1 ∷ 5 ∷ 0x3F ∷ 3 ∷ 0 ∷ [] }

block_bytes : block (one ∷ []) ≡ 0 ∷ 9 ∷ 5 ∷ 97 ∷ 0x11 ∷ 1 ∷ 0 ∷ 0 ∷ 0 ∷ 0 ∷ 0 ∷ 0 ∷ 1 ∷ 5 ∷ 0x3F ∷ 3 ∷ 0 ∷ 0 ∷ 0 ∷ 0 ∷ 0 ∷ 1 ∷ 0 ∷ 0 ∷ 0 ∷ []
unfolding one fixed32 varint entry entries_from restarts_from block
block_bytes = refl

-- the index block of that block
index_bytes : block (index_from 0 ((one ∷ []) ∷ [])) ≡ 0 ∷ 9 ∷ 2 ∷ 97 ∷ 0x11 ∷ 1 ∷ 0 ∷ 0 ∷ 0 ∷ 0 ∷ 0 ∷ 0 ∷ 0 ∷ 0x19 ∷ 0 ∷ 0 ∷ 0 ∷ 0 ∷ 1 ∷ 0 ∷ 0 ∷ 0 ∷ []
unfolding one fixed32 varint entry entries_from restarts_from block index_from mask_of crc_after crc_bits with_trailer
index_bytes = refl

size : length (table (one ∷ [])) ≡ 118
unfolding one fixed32 fixed64 varint mask_of crc_after crc_bits entry entries_from restarts_from block with_trailer cut index_from table
size = refl

footer_bytes : take 4 (drop 70 (table (one ∷ []))) ≡ 0x1E ∷ 8 ∷ 0x2B ∷ 0x16 ∷ []
unfolding one fixed32 fixed64 varint mask_of crc_after crc_bits entry entries_from restarts_from block with_trailer cut index_from table
footer_bytes = refl

empty_size : length (table []) ≡ 74
unfolding fixed32 fixed64 varint mask_of crc_after crc_bits entry entries_from restarts_from block with_trailer cut index_from table
empty_size = refl

empty_footer : take 4 (drop 26 (table [])) ≡ 0 ∷ 8 ∷ 0x0D ∷ 8 ∷ []
unfolding fixed32 fixed64 varint mask_of crc_after crc_bits entry entries_from restarts_from block with_trailer cut index_from table
empty_footer = refl

read_again : read_block (with_trailer (block (one ∷ []))) (record { offset = 0; size = 25 }) ≡ Ok (record { place = 0; key = one.key; value = one.value } ∷ [])
unfolding one fixed32 varint mask_of crc_after crc_bits entry entries_from restarts_from block with_trailer
    take_bytes varint_in cell_at cells_at block_in block_at numbers_in entry_fault restarts_left
read_again = refl

byte_changed : read_block (slice_set (with_trailer (block (one ∷ []))) 3 98) (record { offset = 0; size = 25 }) ≡ Err (rule.Crc, 26)
unfolding one fixed32 varint mask_of crc_after crc_bits entry entries_from restarts_from block with_trailer
    take_bytes varint_in cell_at cells_at block_in block_at numbers_in entry_fault restarts_left
byte_changed = refl

other_type : read_block (slice_set (with_trailer (block (one ∷ []))) 25 1) (record { offset = 0; size = 25 }) ≡ Err (rule.Kind, 25)
unfolding one fixed32 varint mask_of crc_after crc_bits entry entries_from restarts_from block with_trailer
    take_bytes varint_in cell_at cells_at block_in block_at numbers_in entry_fault restarts_left
other_type = refl

-- a block of no bytes: its missing count and its type are at fault at one place
empty_block : read_block (1 ∷ 0 ∷ 0 ∷ 0 ∷ 0 ∷ []) (record { offset = 0; size = 0 }) ≡ Err (rule.Kind, 0)
unfolding block_at block_in
empty_block = refl

zeros : read_footer (replicate 48 0) 118 ≡ Err (rule.Magic, 110)
unfolding varint_in
zeros = refl
