use Rattle.std.proofs.Common.{◌≡◌, take}
use Rattle.std.specs.Prelude.{map}
use Rattle.bl_build.specs.Snapshots.{addition_of}
use Rattle.bl_build.proofs.snapshot.additions.Given as goal

abbrev pub invariant-loop-blob : goal.invariant-loop-blob
invariant-loop-blob l = l.made.items ≡ map addition_of (take l.blob-index l.blobs)
