use Rattle.bl_build.proofs.Files.{Joins}
use Rattle.bl_build.proofs.blobs.add_garbage.Given as goal

abbrev pub invariant-loop-more : goal.invariant-loop-more
invariant-loop-more l = Joins l.fn.blobs.items l.garbage l.more-index l.blobs.items
