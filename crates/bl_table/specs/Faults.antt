-- Faults of tables, and which of several is answered.
use Rattle.std.specs.Prelude.{◌≡◌, ℕ, ◌==◌, ◌&&◌, ◌||◌, nat_lt, Bool, Option, None, Some, Result, Ok, Err, if◌then◌else◌}
use Rattle.bl_table.specs.declared.fault.TableRule.{TableRule}
use Rattle.bl_table.specs.declared.fault.TableRule.TheVariants.{Length, Magic, Handle, Kind, Crc, Restart, Entry, Order}
use Rattle.bl_table.specs.declared.fault.BadTable.{BadTable}
use Rattle.bl_table.specs.declared.fault.BadTable.TheVariants.{At, OutOfMemory}

-- a rule, and the place where it is broken
abbrev pub Fault : Type 0
Fault = TableRule × ℕ

-- the order in which the rules are listed
abbrev pub rank : TableRule → ℕ
rank Length = 0
rank Magic = 1
rank Handle = 2
rank Kind = 3
rank Crc = 4
rank Restart = 5
rank Entry = 6
rank Order = 7

-- the one at the lesser place; at one place, of the rule that is listed first
abbrev pub comes_first : Fault → Fault → Bool
comes_first a b = nat_lt a.1 b.1 || ((a.1 == b.1) && nat_lt (rank a.0) (rank b.0))

-- the first of two faults, where there are any
infixr 10 ◌and◌
abbrev pub ◌and◌ : Option Fault → Option Fault → Option Fault
None and b = b
(Some a) and None = Some a
(Some a) and (Some b) = if comes_first b a then Some b else Some a

-- a fault, unless the test holds
abbrev pub expect : Bool → TableRule → ℕ → Option Fault
expect b rule place = if b then None else Some (rule, place)

-- the fault on the left, or else the one on the right
infixl 10 ◌or◌
abbrev pub ◌or◌ : Option Fault → Option Fault → Option Fault
None or right = right
(Some fault) or right = Some fault

-- the value where there is no fault
abbrev pub unless : {A : Type 0} → Option Fault → A → Result A Fault
unless None x = Ok x
unless (Some fault) x = Err fault

-- what a call answers where this is the reading of its bytes, unless memory runs out
abbrev pub Answers : {A : Type 0} → Result A BadTable → Result A Fault → Type 0
Answers (Ok x) reading = reading ≡ Ok x
Answers (Err (At rule place)) reading = reading ≡ Err (rule, place)
Answers (Err OutOfMemory) reading = Unit {0}
