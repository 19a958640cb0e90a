-- The machine of maps: what the store means, line by line.
use Rattle.std.specs.Prelude.{◌≡◌, ℕ, ◌+◌, ◌^◌, ◌<◌, List, [], ◌∷◌, ◌++◌, length, flat_map, map}
use Rattle.std.specs.FinMap.{get}
use Rattle.bl_entry.specs.Batches.{Batch, put_of, deletion_of}
use Rattle.bl_entry.specs.Revisions.{Map, after_operations}
use Rattle.bl_entry.specs.declared.batch.Operation.{Operation}
use Rattle.bl_script.specs.declared.command.Operation.{Operation as Ordered}
use Rattle.bl_script.specs.declared.command.Operation.TheVariants as ordered
use Rattle.bl_script.specs.declared.command.Command.{Command}
use Rattle.bl_script.specs.declared.command.Command.TheVariants as command
use Rattle.bl_script.specs.declared.command.Refusal.TheVariants.{Syntax}
use Rattle.bl_script.specs.declared.command.Parsed.{Parsed}
use Rattle.bl_script.specs.declared.command.Parsed.TheVariants.{Nothing, Refused, Go}
use Rattle.bl_script.specs.Lines.{lines, whole_lines}
use Rattle.bl_script.specs.Parsing.{parsed}
use Rattle.bl_script.specs.Printing.{ok_line, end_line, value_line, pair_line, refusal_line}
use Rattle.bl_logstore.specs.Pairs.{pairs_between}

-- the state: a map
pub record State : Type 0 where
  pub now : Map

-- operations that are written at once
abbrev pub Write : Type 0
Write = List Operation

abbrev pub operation : Ordered → Operation
operation (ordered.Put key value) = put_of key value
operation (ordered.Del key) = deletion_of key

-- what a command writes, if it writes
abbrev pub written : Command → List Write
written (command.Put key value) = (put_of key value ∷ []) ∷ []
written (command.Del key) = (deletion_of key ∷ []) ∷ []
written (command.Batch operations) = map operation operations ∷ []
written (command.Get key) = []
written (command.Scan from to) = []
written command.Sync = []
written command.Flush = []
written command.Files = []
written command.Reopen = []

-- what it tells; `flush` and `files` are not built yet
abbrev pub reply : Command → Map → List ℕ
reply (command.Put key value) m = ok_line
reply (command.Del key) m = ok_line
reply (command.Batch operations) m = ok_line
reply (command.Get key) m = value_line (get m key)
reply (command.Scan from to) m = flat_map (λ p. pair_line p.0 p.1) (pairs_between from to m) ++ end_line
reply command.Sync m = ok_line
reply command.Flush m = refusal_line Syntax
reply command.Files m = refusal_line Syntax
reply command.Reopen m = ok_line

-- the same of an order: a blank line and a comment tell nothing, and a refusal is a reply and changes nothing
abbrev pub writes_of : Parsed → List Write
writes_of Nothing = []
writes_of (Refused why) = []
writes_of (Go c) = written c

abbrev pub reply_of : Parsed → Map → List ℕ
reply_of Nothing m = []
reply_of (Refused why) m = refusal_line why
reply_of (Go c) m = reply c m

-- the map after some writes
unfoldable pub after_writes : List Write → Map → Map
after_writes [] m = m
after_writes (operations ∷ more) m = after_writes more (after_operations operations m)

-- a line of the history: what was ordered, what it wrote, and the bytes that it told
pub record Line : Type 0 where
  pub order : Parsed
  pub wrote : List Write
  pub told : List ℕ

-- one line
pub record Step (old : State) (line : Line) (new : State) : Type 0 where
  pub told_is : line.told ≡ reply_of line.order old.now
  pub wrote_is : line.wrote ≡ writes_of line.order
  pub now_is : new.now ≡ after_writes line.wrote old.now

-- some lines, one after another
abbrev pub Runs : State → List Line → State → Type 0
Runs old [] new = new ≡ old
Runs old (line ∷ lines) new = (mid : State) × Step old line mid × Runs mid lines new

abbrev pub orders_of : List Line → List Parsed
orders_of history = map (λ l. l.order) history

abbrev pub told_by : List Line → List ℕ
told_by history = flat_map (λ l. l.told) history

abbrev pub written_by : List Line → List Write
written_by history = flat_map (λ l. l.wrote) history

-- a history of these orders, from a map on
pub record IsHistory (start : Map) (given : List Parsed) (history : List Line) (last : State) : Type 0 where
  pub orders_are : orders_of history ≡ given
  pub runs : Runs (record { now = start }) history last

-- what the lines of a script order, and those of them that end in it
abbrev pub orders : List ℕ → List Parsed
orders script = map parsed (lines script)

abbrev pub whole_orders : List ℕ → List Parsed
whole_orders script = map parsed (whole_lines script)

-- how many operations were written
unfoldable pub operations_in : List Write → ℕ
operations_in [] = 0
operations_in (operations ∷ more) = length operations + operations_in more

-- the batches of some writes: each operation takes a sequence, the first one this
unfoldable pub numbered : ℕ → List Write → List Batch
numbered first [] = []
numbered first (operations ∷ more) = record { first = first; operations = operations } ∷ numbered (first + length operations) more

-- how often the store was opened anew
abbrev pub reopens : Parsed → ℕ
reopens (Go command.Reopen) = 1
reopens Nothing = 0
reopens (Refused why) = 0
reopens (Go (command.Put key value)) = 0
reopens (Go (command.Del key)) = 0
reopens (Go (command.Batch operations)) = 0
reopens (Go (command.Get key)) = 0
reopens (Go (command.Scan from to)) = 0
reopens (Go command.Sync) = 0
reopens (Go command.Flush) = 0
reopens (Go command.Files) = 0

unfoldable pub reopens_in : List Line → ℕ
reopens_in [] = 0
reopens_in (line ∷ lines) = reopens line.order + reopens_in lines

-- where a run began: the batches of the folder, its last sequence, its map, and the number of the first log made
pub record Start : Type 0 where
  pub batches : List Batch
  pub last : ℕ
  pub now : Map
  pub number : ℕ

-- These lines pass no limit: there was a sequence for each operation, and a number for each log.
pub record Fits (began : Start) (history : List Line) : Type 0 where
  pub sequences : began.last + operations_in (written_by history) < 2 ^ 56
  pub numbers : began.number + reopens_in history < 10 ^ 15
