-- What a mark takes back.
use Rattle.std.specs.Prelude.{◌≡◌, take, length}
use Rattle.bl_table.specs.declared.mark.Mark.{Mark}
use Rattle.bl_table.specs.Building.{Writing}

abbrev pub undone : Mark → Writing → Writing
undone m w = record { bytes = take m.bytes w.bytes; restarts = take m.restarts w.restarts; count = m.count; last = m.last.items }

-- a mark of what stood in a block
pub record Marks (m : Mark) (w : Writing) : Type 0 where
  pub bytes : m.bytes ≡ length w.bytes
  pub restarts : m.restarts ≡ length w.restarts
  pub count : m.count ≡ w.count
  pub last : m.last.items ≡ w.last
