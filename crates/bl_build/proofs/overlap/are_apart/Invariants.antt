use Rattle.std.proofs.Common.{◌≡◌, take}
use Rattle.std.specs.Prelude.{map}
use Rattle.bl_build.proofs.Fronting.{Builds, now_of}
use Rattle.bl_build.proofs.overlap.are_apart.Given as goal

abbrev pub invariant-loop-table : goal.invariant-loop-table
invariant-loop-table l = map (λ t. t.now) l.tables.items ≡ take l.table-index l.added

abbrev pub invariant-loop-next : goal.invariant-loop-next
invariant-loop-next l = Builds (map now_of l.next-items) l.next-index (map now_of l.front.items)
