use Rattle.std.proofs.Common.{◌≡◌, ℕ, take}
use Rattle.std.specs.Prelude.{◌==◌, ◌&&◌, not}
use Rattle.std.specs.List.{list_any}
use Rattle.std.specs.Ordering.{nat_cmp}
use Rattle.std.specs.BTreeSet.{contains}
use Rattle.bl_build.proofs.checks.free_numbers.Given as goal

abbrev pub invariant-loop-table : goal.invariant-loop-table
invariant-loop-table l = (q : ℕ) → contains nat_cmp l.free q ≡ (list_any (λ t. t.number == q) l.added && not (list_any (λ t. t.number == q) (take l.table-index l.left)))
