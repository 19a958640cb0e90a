use Rattle.std.proofs.Common.{drop}
use Rattle.std.specs.Prelude.{map}
use Rattle.bl_build.specs.Versions.{linked_to, with_links}
use Rattle.bl_build.proofs.Files.{Keeps}
use Rattle.bl_build.proofs.blobs.needed.Given as goal

abbrev pub invariant-loop-i : goal.invariant-loop-i
invariant-loop-i l = Keeps (with_links l.tables l.blobs) (map (linked_to l.tables) (drop l.i l.blobs)) l.reached l.kept.items
