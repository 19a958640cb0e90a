use Rattle.std.proofs.Common.{◌∙◌, append_assoc, refl}
use Rattle.bl_script.proofs.print.append_blob.Goals as goal

pub returns : goal.returns
returns c = c.in_ok-writeln.ensures.bytes ∙ simp append_assoc refl
