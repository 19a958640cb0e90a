-- How far the code has come in a block.
use Rattle.std.specs.Prelude.{◌≡◌, ℕ, ◌+◌, ◌-◌, ◌*◌, ◌==◌, ◌≤◌, List, length, drop, if◌then◌else◌, Option, None, Some}
use Rattle.bl_code.specs.Reading.{Input}
use Rattle.bl_table.specs.declared.fault.TableRule.TheVariants.{Restart}
use Rattle.bl_table.specs.Faults.{Fault, expect, ◌or◌}
use Rattle.bl_table.specs.Blocks.{Cell, Cells, Head, head_at, cell_at, entry_fault, stop_fault, restarts_left}
use Rattle.bl_table.specs.declared.check.Fault.{Fault as FaultFound}
use Rattle.bl_table.specs.declared.entry.Lengths.{Lengths}
use Rattle.bl_table.specs.declared.entry.Stepped.{Stepped}

abbrev pub head_of : Lengths → Head
head_of l = record { shared = l.shared; unshared = l.unshared; size = l.value }

abbrev pub TakesHead : Option Lengths → Input → Input → Type 0
TakesHead (Some l) old new = head_at old ≡ Some (head_of l, new)
TakesHead None old new = head_at old ≡ None

-- the entry that was read, of this key
abbrev pub cell_read : Stepped → List ℕ → Cell
cell_read s key = record { place = s.place; shared = s.shared; key = key; value = s.value.now }

abbrev pub Steps : Option Stepped → List ℕ → Input → Input → List ℕ → Type 0
Steps (Some s) before old new key = cell_at before old ≡ Some (cell_read s key, new)
Steps None before old new key = cell_at before old ≡ None

-- a reading has taken some bytes, this many at least
pub record Moves (least : ℕ) (old new : Input) : Type 0 where
  pub taken : ℕ
  pub enough : least ≤ taken
  pub within : taken ≤ length old.left
  pub place : new.place ≡ old.place + taken
  pub left : new.left ≡ drop taken old.left

-- what is at fault of a block whose restarts begin at a limit, in what is left of its entries and restarts, behind one of this key
abbrev pub left_fault : ℕ → ℕ → ℕ → ℕ → List ℕ → Option Fault
left_fault offset limit count first left = expect (first == 0) Restart (offset + limit) or expect (length left == 0) Restart (offset + limit + 4 * (count - length left))

abbrev pub rest_fault : ℕ → ℕ → ℕ → ℕ → Option (List ℕ) → Cells → List ℕ → Option Fault
rest_fault offset limit count first before more rs =
    entry_fault offset before more.cells or stop_fault offset more.stop or left_fault offset limit count first (restarts_left more.cells rs)

abbrev pub fault_of : Option FaultFound → Option Fault
fault_of None = None
fault_of (Some f) = Some (f.rule, f.place)

-- the key before an entry at a place
abbrev pub before_at : ℕ → List ℕ → Option (List ℕ)
before_at place before = if place == 0 then None else Some before
