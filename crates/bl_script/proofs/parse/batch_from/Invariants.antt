use Rattle.std.proofs.Common.{◌≡◌, ◌++◌, length, []}
use Rattle.std.specs.Option.{option_map}
use Rattle.bl_script.specs.Lines.{words}
use Rattle.bl_script.specs.Parsing.{operations}
use Rattle.bl_script.proofs.parse.batch_from.Given as goal

-- the operations read, and those of the words that are left
abbrev pub invariant-operations : goal.invariant-operations
invariant-operations l = record {
  all : operations (words l.rest) ≡ option_map (λ os. l.items.items ++ os) (operations (words l.left));
  begun : (l.items.items ≡ []) → l.left ≡ l.rest;
}

abbrev pub decreases-operations : goal.decreases-operations
decreases-operations l = length l.left
