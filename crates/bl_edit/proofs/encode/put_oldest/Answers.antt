use Rattle.std.proofs.Common.{ap, arith, length, ◌∙◌, ◌++◌}
use Rattle.bl_code.specs.Numbers.{varint64}
use Rattle.bl_edit.proofs.Appending.{varint_size}
use Rattle.bl_edit.proofs.encode.put_oldest.Goals as goal

pub put_slice-requires : goal.put_slice-requires
put_slice-requires c =
    omega (arith, varint_size 10 c.args.file, ap length (c.deref.ensures.value ∙ c.in_ok-put_varint64.ensures.ok ∙ ap (λ xs. xs ++ varint64 c.args.file) c.new-number.ensures.items))
