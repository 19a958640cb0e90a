use Rattle.std.proofs.Common.{◌≡◌, ◌++◌, length}
use Rattle.bl_logstore.proofs.names.in_order.Given as goal

abbrev pub invariant-numbers : goal.invariant-numbers
invariant-numbers l = l.ordered.items ++ l.numbers.keys ≡ l.fn.numbers.keys

abbrev pub decreases-numbers : goal.decreases-numbers
decreases-numbers l = length l.numbers.keys
