use Rattle.std.specs.Prelude.{◌==◌, ◌||◌}
use Rattle.std.specs.List.{list_any}
use Rattle.std.specs.Ordering.{nat_cmp}
use Rattle.std.specs.BTreeSet.{contains}
use Rattle.bl_build.specs.Versions.{blob_numbers}
use Rattle.bl_build.proofs.Searching.{Seeks}
use Rattle.bl_build.proofs.checks.first_blob_twice.Given as goal

abbrev pub invariant-loop-blob : goal.invariant-loop-blob
invariant-loop-blob l = Seeks (λ a. a.number) (blob_numbers l.blobs) l.added l.blob-index (λ q. list_any (λ b. b.number == q) l.blobs || contains nat_cmp l.before q)
