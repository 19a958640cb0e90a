use Rattle.std.proofs.Common.{◌≡◌, None, take}
use Rattle.std.specs.Prelude.{find, not}
use Rattle.std.specs.List.{list_any}
use Rattle.bl_build.specs.Versions.{is_deleted}
use Rattle.bl_build.proofs.checks.first_unknown.Given as goal

abbrev pub invariant-loop-table : goal.invariant-loop-table
invariant-loop-table l = find (λ d. not (list_any (is_deleted d) l.tables)) (take l.table-index l.deleted) ≡ None
