use Rattle.std.proofs.Common.{append_assoc, ap, ◌∙◌}
use Rattle.bl_edit.specs.Bounds.{FitsWords}
use Rattle.bl_edit.specs.Reading.{read_edit}
use Rattle.bl_edit.proofs.Written.{reads_written}
use Rattle.bl_edit.specs.Spelling.{edit_bytes}
use Rattle.bl_edit.proofs.encode.encode_edit.Goals as goal

pub returns-clause-bytes : goal.returns-clause-bytes
unfolding edit_bytes
returns-clause-bytes c =
    rw (
      c.from_vec.ensures,
      c.in_ok-put_garbage.ensures.bytes,
      c.in_ok-put_blobs.ensures.bytes,
      c.in_ok-put_added.ensures.bytes,
      c.in_ok-put_deleted.ensures,
      c.in_ok-put_singles.ensures.bytes,
      c.new-bytes.ensures.items,
      c.as_slice.ensures,
      c.as_slice-2.ensures,
      c.as_slice-3.ensures,
      c.as_slice-4.ensures,
    )
    (simp append_assoc)

pub returns-clause-reads : goal.returns-clause-reads
returns-clause-reads c =
    let words : FitsWords c.args.edit.now = record {
      log_number = c.in_ok-put_singles.ensures.log_number;
      next_file = c.in_ok-put_singles.ensures.next_file;
      sizes = rw (← c.as_slice-2.ensures) c.in_ok-put_added.ensures.sizes;
      totals = rw (← c.as_slice-3.ensures) c.in_ok-put_blobs.ensures.totals;
      garbage = rw (← c.as_slice-4.ensures) c.in_ok-put_garbage.ensures.totals;
    } in
    ap read_edit (returns-clause-bytes c) ∙ reads_written c.args.edit.now c.requires words
