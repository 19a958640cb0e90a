use Rattle.std.proofs.Common.{◌≡◌, take}
use Rattle.std.specs.Prelude.{map, filter}
use Rattle.bl_build.specs.Snapshots.{garbage_of, has_garbage}
use Rattle.bl_build.proofs.snapshot.garbage.Given as goal

abbrev pub invariant-loop-blob : goal.invariant-loop-blob
invariant-loop-blob l = l.made.items ≡ map garbage_of (filter has_garbage (take l.blob-index l.blobs))
