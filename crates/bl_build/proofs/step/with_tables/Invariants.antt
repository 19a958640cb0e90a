use Rattle.std.proofs.Common.{◌≡◌, take}
use Rattle.std.specs.List.Sorted.{IsNonDecreasingBy}
use Rattle.bl_build.specs.Listing.{table_rank}
use Rattle.bl_build.specs.Versions.{with_tables}
use Rattle.bl_build.proofs.step.with_tables.Given as goal

abbrev pub invariant-loop-table : goal.invariant-loop-table
invariant-loop-table l = record {
  placed : l.tables.items ≡ with_tables (take l.table-index l.added) l.fn.left.items;
  rise : IsNonDecreasingBy table_rank l.tables.items;
}
