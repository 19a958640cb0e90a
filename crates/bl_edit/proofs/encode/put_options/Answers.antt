use Rattle.std.proofs.Common.{ap, arith, length}
use Rattle.bl_edit.proofs.Appending.{options_size}
use Rattle.bl_edit.proofs.encode.put_options.Goals as goal

pub put_slice-requires : goal.put_slice-requires
put_slice-requires c = omega (arith, options_size c.in-Some.options, ap length c.in_ok-numbers.ensures, ap length c.deref.ensures.value)
