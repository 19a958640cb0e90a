use Rattle.std.proofs.Common.{append_assoc}
use Rattle.bl_edit.proofs.encode.put_table.Goals as goal

pub returns-clause-bytes : goal.returns-clause-bytes
returns-clause-bytes c =
    rw (
      c.in_ok-put_varint32-3.ensures.ok,
      c.in_ok-put_oldest.ensures,
      c.in_ok-put_varint64-4.ensures.ok,
      c.in_ok-put_varint64-3.ensures.ok,
      c.in_ok-put_slice-2.ensures.ok,
      c.in_ok-put_slice.ensures.ok,
      c.in_ok-put_varint64-2.ensures.ok,
      c.in_ok-put_varint64.ensures.ok,
      c.in_ok-put_varint32-2.ensures.ok,
      c.in_ok-put_varint32.ensures.ok,
      c.as_slice.ensures,
      c.as_slice-2.ensures,
    )
    (simp append_assoc)
