-- What reading a table, a block of it, or a value in a blob file gives: what is read, or the place of the first fault.
use Rattle.std.specs.Prelude.{◌≢◌, ℕ, IfSome, IsSomeAnd, ◌+◌, ◌-◌, ◌^◌, ◌==◌, nat_lt, nat_le, ◌&&◌, Bool, false, List, [], ◌∷◌, length, take, drop, Option, None, Some, Result, Ok, Err, if◌then◌else◌}
use Rattle.bl_code.specs.Reading.{◌>>=◌}
use Rattle.bl_entry.specs.Keys.{Key, max_value, read_key}
use Rattle.bl_entry.specs.declared.key.BadKey.{BadKey}
use Rattle.bl_entry.specs.declared.key.Entry.{Entry}
use Rattle.bl_entry.specs.declared.key.Kind.{Kind}
use Rattle.bl_entry.specs.declared.key.Kind.TheVariants.{Deletion, Value, BlobRef}
use Rattle.bl_blob.specs.Reading.{read_record}
use Rattle.bl_blob.specs.declared.blob.BadBlob.{BadBlob}
use Rattle.bl_blob.specs.declared.blob.BadBlob.TheVariants.{At, OutOfMemory}
use Rattle.bl_index.specs.Index.{read_index}
use Rattle.bl_index.specs.declared.index.BlobIndex.{BlobIndex}
use Rattle.bl_index.specs.declared.error.BadIndex.{BadIndex}
use Rattle.bl_table.specs.Blocks.{read_block}
use Rattle.bl_table.specs.Faults.{Fault}
use Rattle.bl_table.specs.Whole.{read_table}
use Rattle.bl_table.specs.declared.entry.BlockEntry.{BlockEntry}
use Rattle.bl_table.specs.declared.handle.Handle.{Handle}

-- so many bytes from a place on, or as many of them as there are
abbrev pub part_at : ℕ → ℕ → List ℕ → List ℕ
part_at start count bytes = take count (drop start bytes)

-- there is a file, whose bytes are such
abbrev pub Holds : Option (List ℕ) → (List ℕ → Type 0) → Type 0
Holds file P = IsSomeAnd file P

-- there is none of this size
abbrev pub IsNotOf : ℕ → Option (List ℕ) → Type 0
IsNotOf size file = IfSome file (λ bytes. length bytes ≢ size)

-- ---- tables

-- the number of a blob file
abbrev pub has_file : Result BlobIndex BadIndex → Bool
has_file (Ok index) = nat_le 1 index.file && nat_lt index.file (10 ^ 15)
has_file (Err bad) = false

-- a value of this kind is in bounds
abbrev pub is_value : Kind → List ℕ → Bool
is_value Deletion value = length value == 0
is_value Value value = nat_le (length value) max_value
is_value BlobRef value = has_file (read_index value)

abbrev pub entry_with : ℕ → List ℕ → Result Key BadKey → Result Entry ℕ
entry_with place value (Ok key) = if is_value key.kind value then Ok (record { key = key; value = value }) else Err place
entry_with place value (Err bad) = Err place

-- the entry that stands at a place of a table, whose key and value are to be in bounds
abbrev pub proper_entry : BlockEntry → Result Entry ℕ
proper_entry item = entry_with item.place item.value (read_key item.key)

abbrev pub proper_entries : List BlockEntry → Result (List Entry) ℕ
proper_entries [] = Ok []
proper_entries (item ∷ items) = proper_entry item >>= λ e. proper_entries items >>= λ es. Ok (e ∷ es)

abbrev pub entries_of : Result (List BlockEntry) Fault → Result (List Entry) ℕ
entries_of (Ok items) = proper_entries items
entries_of (Err fault) = Err fault.1

-- the entries of a table file, which is to be there, to have this size, and to be a table of entries in bounds
abbrev pub read_run : ℕ → Option (List ℕ) → Result (List Entry) ℕ
read_run size None = Err 0
read_run size (Some bytes) = if length bytes == size then entries_of (read_table bytes) else Err 0

-- ---- blocks

abbrev pub block_with : List ℕ → Result (List BlockEntry) Fault → Result (List ℕ) ℕ
block_with bytes (Ok entries) = Ok bytes
block_with bytes (Err fault) = Err fault.1

-- the block of a handle with its trailer, in a table file, which is to be there
abbrev pub read_block_at : Handle → Option (List ℕ) → Result (List ℕ) ℕ
read_block_at handle None = Err 0
read_block_at handle (Some bytes) = let part = part_at handle.offset (handle.size + 5) bytes in block_with part (read_block part handle)

-- ---- values in blob files

-- what stands of a record in front of its value: its head, and a key
abbrev pub front : List ℕ → ℕ
front key = 32 + length key

abbrev pub value_with : ℕ → List ℕ → Result (Unit {0}) BadBlob → Result (List ℕ) ℕ
value_with start value (Ok whole) = Ok value
value_with start value (Err (At rule place)) = Err (start + place)
value_with start value (Err OutOfMemory) = Err start

-- the value in these bytes, which are to be the record of this key and size that begins at a place
abbrev pub value_in : ℕ → List ℕ → ℕ → List ℕ → Result (List ℕ) ℕ
value_in start key size bytes = value_with start (drop (front key) bytes) (read_record bytes key size)

-- the value that an index of this user key names, in its blob file, which is to be there
abbrev pub read_value : List ℕ → BlobIndex → Option (List ℕ) → Result (List ℕ) ℕ
read_value key index None = Err 0
read_value key index (Some bytes) =
    let start = index.offset - front key in
    if nat_lt index.offset (front key) then Err 0 else value_in start key index.size (part_at start (front key + index.size) bytes)
