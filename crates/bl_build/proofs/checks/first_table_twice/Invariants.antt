use Rattle.std.specs.Prelude.{not}
use Rattle.std.specs.Ordering.{nat_cmp}
use Rattle.std.specs.BTreeSet.{contains}
use Rattle.bl_build.specs.Versions.{table_numbers}
use Rattle.bl_build.proofs.Searching.{Seeks}
use Rattle.bl_build.proofs.checks.first_table_twice.Given as goal

abbrev pub invariant-loop-table : goal.invariant-loop-table
invariant-loop-table l = Seeks (λ t. t.number) (table_numbers l.left) l.added l.table-index (λ q. not (contains nat_cmp l.free q))
