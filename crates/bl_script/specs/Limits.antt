-- The limits that a command is within.
use Rattle.std.specs.Prelude.{ℕ, ◌^◌, ◌<◌, ◌≤◌, List, length}
use Rattle.std.specs.List.{AllByRecursion}
use Rattle.bl_code.specs.declared.limits.TheConstants.{MAX_KEY, MAX_VALUE}
use Rattle.bl_script.specs.declared.command.Operation.{Operation}
use Rattle.bl_script.specs.declared.command.Operation.TheVariants as op
use Rattle.bl_script.specs.declared.command.Command.{Command}
use Rattle.bl_script.specs.declared.command.Command.TheVariants.{Put, Del, Batch, Get, Scan, Sync, Flush, Files, Reopen}
use Rattle.bl_script.specs.declared.command.Parsed.{Parsed}
use Rattle.bl_script.specs.declared.command.Parsed.TheVariants.{Nothing, Refused, Go}
use Rattle.bl_script.specs.Parsing.{parsed}

-- the bounds of keys and values
pub record IsKey (key : List ℕ) : Type 0 where
  pub some : 1 ≤ length key
  pub no_longer : length key ≤ MAX_KEY

abbrev pub IsValue : List ℕ → Type 0
IsValue value = length value ≤ MAX_VALUE

abbrev pub IsOperation : Operation → Type 0
IsOperation (op.Put key value) = IsKey key × IsValue value
IsOperation (op.Del key) = IsKey key

-- a batch has fewer than 2^32 operations
abbrev pub IsCommand : Command → Type 0
IsCommand (Put key value) = IsKey key × IsValue value
IsCommand (Del key) = IsKey key
IsCommand (Batch operations) = AllByRecursion IsOperation operations × (length operations < 2 ^ 32)
IsCommand (Get key) = Unit {0}
IsCommand (Scan from to) = Unit {0}
IsCommand Sync = Unit {0}
IsCommand Flush = Unit {0}
IsCommand Files = Unit {0}
IsCommand Reopen = Unit {0}

abbrev pub IsWithinLimits : Parsed → Type 0
IsWithinLimits Nothing = Unit {0}
IsWithinLimits (Refused why) = Unit {0}
IsWithinLimits (Go command) = IsCommand command

abbrev pub ParsedAreWithinLimits : Type 0
ParsedAreWithinLimits = (line : List ℕ) → IsWithinLimits (parsed line)
