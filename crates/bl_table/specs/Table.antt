-- The footer of a table.
use Rattle.std.specs.Prelude.{ℕ, ◌+◌, ◌-◌, ◌==◌, ◌&&◌, nat_le, not, Bool, List, length, take, drop, None, Some, option_and_then, Result, Ok, Err, if◌then◌else◌}
use Rattle.std.specs.Int.{w64, from_le_bytes}
use Rattle.bl_code.specs.Reading.{Input, Read, from_start, take_varint64}
use Rattle.bl_table.specs.declared.handle.Handle.{Handle}
use Rattle.bl_table.specs.declared.fault.TableRule.TheVariants as rule
use Rattle.bl_table.specs.Faults.{Fault}

-- offset and size
abbrev pub handle_at : Input → Read Handle
handle_at input = option_and_then (λ offset. option_and_then (λ size. Some (record { offset = offset.0; size = size.0 }, size.1)) (take_varint64 offset.1)) (take_varint64 input)

-- the block of a handle and its trailer end before this place
abbrev pub ends_before : ℕ → Handle → Bool
ends_before place h = nat_le (h.offset + h.size + 5) place

-- a handle that is spelled there, of a block that ends before the footer of a table of this size, or the fault at that place
abbrev pub inside : ℕ → ℕ → Read Handle → Result (Handle × Input) Fault
inside size place None = Err (rule.Handle, place)
inside size place (Some read) = if ends_before (size - 48) read.0 then Ok read else Err (rule.Handle, place)

abbrev pub with_magic : ℕ → List ℕ → Handle → Result (Handle × Input) Fault → Result (Handle × Handle) Fault
with_magic size bytes meta (Err fault) = Err fault
with_magic size bytes meta (Ok index) = if from_le_bytes w64 (drop 40 bytes) == 0xDB4775248B80FB57 then Ok (meta, index.0) else Err (rule.Magic, size - 8)

abbrev pub with_index : ℕ → List ℕ → Result (Handle × Input) Fault → Result (Handle × Handle) Fault
with_index size bytes (Err fault) = Err fault
with_index size bytes (Ok meta) = with_magic size bytes meta.0 (inside size (size - 48 + meta.1.place) (handle_at meta.1))

-- the handles of the metaindex block and of the index block, from the last 48 bytes of a table of this size; what follows the handles is ignored
abbrev pub read_footer : List ℕ → ℕ → Result (Handle × Handle) Fault
read_footer bytes size =
    if not ((length bytes == 48) && nat_le 48 size) then Err (rule.Length, 0)
    else with_index size bytes (inside size (size - 48) (handle_at (from_start (take 40 bytes))))
