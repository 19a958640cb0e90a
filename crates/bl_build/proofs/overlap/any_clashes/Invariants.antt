use Rattle.std.proofs.Common.{◌≡◌, false, take}
use Rattle.std.specs.Prelude.{map}
use Rattle.std.specs.List.{list_any}
use Rattle.bl_build.specs.Versions.{clash}
use Rattle.bl_build.proofs.overlap.any_clashes.Given as goal

abbrev pub invariant-loop-table : goal.invariant-loop-table
invariant-loop-table l = list_any (λ t. list_any (clash t) (map (λ u. u.now) l.front)) (take l.table-index l.tables) ≡ false
