-- What the code finds of a whole table.
use Rattle.std.specs.Prelude.{◌≡◌, ℕ, List, Option, Result, Ok, Err, None, Vec}
use Rattle.std.specs.declared.alloc.Global.{Global}
use Rattle.bl_table.specs.declared.entry.BlockEntry.{BlockEntry}
use Rattle.bl_table.specs.declared.fault.BadTable.{BadTable}
use Rattle.bl_table.specs.declared.whole.Named.{Named}
use Rattle.bl_table.specs.Faults.{Fault, ◌and◌, Answers}
use Rattle.bl_table.specs.Blocks.{Contents, cells_in, head_entry}
use Rattle.bl_table.specs.Steps.{fault_of}
use Rattle.bl_table.specs.Whole.{last_entry, order_fault, last_fault, first_fault}

-- a block that was found
pub record IsFound (n : Named) (block : Contents) : Type 0 where
  pub fault : fault_of n.fault ≡ block.fault
  pub bare : n.bare ≡ block.bare
  pub cells : (cells_in n.entries.now).cells ≡ block.cells

-- the faults of order at an index entry: of the index key before it, of the block's first entry, and of its own key
abbrev pub orders : ℕ → List ℕ → ℕ → List ℕ → List BlockEntry → List BlockEntry → Option Fault
orders at before place key old new =
    first_fault at before (head_entry new) and order_fault (last_entry None old) (head_entry new) and last_fault place key (last_entry None new)

-- a list, or the first fault
abbrev pub Reads : Result (Vec BlockEntry Global) BadTable → Result (List BlockEntry) Fault → Type 0
Reads (Ok entries) reading = reading ≡ Ok entries.items
Reads (Err bad) reading = let r : Result (List BlockEntry) BadTable = Err bad in Answers r reading
