-- Reading a blob index, with the first fault. The grammar itself is `IsBlobIndex` of bl_code.
use Rattle.std.specs.Prelude.{◌≡◌, ℕ, ◌==◌, List, length, Result, Ok, Err}
use Rattle.bl_code.specs.Reading.{Input, from_start, take_byte, take_varint64, or_fault, need, ◌>>=◌}
use Rattle.bl_index.specs.declared.index.BlobIndex.{BlobIndex}
use Rattle.bl_index.specs.declared.error.BadIndex.{BadIndex}
use Rattle.bl_index.specs.declared.error.IndexRule.{IndexRule}
use Rattle.bl_index.specs.declared.error.IndexRule.TheVariants.{Empty, Kind, Number, Compression, Trailing}

abbrev pub bad : IndexRule → ℕ → BadIndex
bad rule place = record { rule = rule; place = place }

abbrev pub number_at : Input → Result (ℕ × Input) BadIndex
number_at input = or_fault (bad Number input.place) (take_varint64 input)

unfoldable pub index_at : Input → Result BlobIndex BadIndex
index_at input = do
  kind ← or_fault (bad Empty input.place) (take_byte input)
  _ ← need (kind.0 == 1) (bad Kind input.place)
  file ← number_at kind.1
  offset ← number_at file.1
  size ← number_at offset.1
  last ← or_fault (bad Compression size.1.place) (take_byte size.1)
  _ ← need (last.0 == 0) (bad Compression size.1.place)
  _ ← need (length last.1.left == 0) (bad Trailing last.1.place)
  Ok (record { file = file.0; offset = offset.0; size = size.0 })

abbrev pub read_index : List ℕ → Result BlobIndex BadIndex
read_index bytes = index_at (from_start bytes)

-- a call answers what this reading of the taker before it gives, and the taker stands behind what was read
abbrev pub Reads : {A E : Type 0} → Result A E → Input → Input → Result (A × Input) E → Type 0
Reads (Ok x) old new reading = reading ≡ Ok (x, new)
Reads (Err e) old new reading = reading ≡ Err e
