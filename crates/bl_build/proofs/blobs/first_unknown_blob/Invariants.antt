use Rattle.std.proofs.Common.{◌≡◌, None, take}
use Rattle.std.specs.Prelude.{◌==◌, find, not}
use Rattle.std.specs.List.{list_any}
use Rattle.bl_build.proofs.blobs.first_unknown_blob.Given as goal

abbrev pub invariant-loop-file : goal.invariant-loop-file
invariant-loop-file l = find (λ g. not (list_any (λ b. b.number == g.number) l.blobs)) (take l.file-index l.garbage) ≡ None
