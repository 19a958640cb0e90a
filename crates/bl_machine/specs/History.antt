-- A whole script: its lines one after another, what they wrote, and what they told.
use Rattle.std.specs.Prelude.{◌≡◌, ℕ, List, [], ◌∷◌, ◌++◌, map, flat_map, take}
use Rattle.bl_entry.specs.Revisions.{Map}
use Rattle.bl_edit.specs.Options.{Values}
use Rattle.bl_script.specs.declared.command.Parsed.{Parsed}
use Rattle.bl_script.specs.Lines.{lines, whole_lines}
use Rattle.bl_script.specs.Parsing.{parsed}
use Rattle.bl_machine.specs.Writes.{Write, after_writes}
use Rattle.bl_machine.specs.State.{State}
use Rattle.bl_machine.specs.Step.{Line, Step}

-- some lines, one after another
abbrev pub Runs : Values → State → List Line → State → Type 0
Runs o old [] new = new ≡ old
Runs o old (line ∷ more) new = (mid : State) × Step o old line mid × Runs o mid more new

abbrev pub orders_of : List Line → List Parsed
orders_of history = map (λ l. l.order) history

abbrev pub told_by : List Line → List ℕ
told_by history = flat_map (λ l. l.told) history

abbrev pub written_by : List Line → List Write
written_by history = flat_map (λ l. l.wrote) history

-- a history of these orders, from a state on
pub record IsHistory (o : Values) (first : State) (given : List Parsed) (history : List Line) (last : State) : Type 0 where
  pub orders_are : orders_of history ≡ given
  pub runs : Runs o first history last

-- a history of the first of these orders
pub record IsFront (o : Values) (first : State) (given : List Parsed) (history : List Line) (last : State) : Type 0 where
  pub rest : List Parsed
  pub orders_are : orders_of history ++ rest ≡ given
  pub runs : Runs o first history last

-- the map after the first so many writes of a history
abbrev pub map_after : ℕ → List Line → Map → Map
map_after count history m = after_writes (take count (written_by history)) m

-- what the lines of a script order, and those of them that end in it
abbrev pub orders : List ℕ → List Parsed
orders script = map parsed (lines script)

abbrev pub whole_orders : List ℕ → List Parsed
whole_orders script = map parsed (whole_lines script)
