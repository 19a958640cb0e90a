use Rattle.std.proofs.Common.{append_assoc}
use Rattle.bl_edit.proofs.encode.option_numbers.Goals as goal

pub returns : goal.returns
returns c =
    rw (
      ← c.options.view_is,
      c.in_ok-put_varint64-9.ensures.ok,
      c.in_ok-put_varint64-8.ensures.ok,
      c.in_ok-put_varint64-7.ensures.ok,
      c.in_ok-put_varint64-6.ensures.ok,
      c.in_ok-put_varint64-5.ensures.ok,
      c.in_ok-put_varint64-4.ensures.ok,
      c.in_ok-put_varint64-3.ensures.ok,
      c.in_ok-put_varint64-2.ensures.ok,
      c.in_ok-put_varint64.ensures.ok,
      c.new-bytes.ensures.items,
    )
    (simp append_assoc)
