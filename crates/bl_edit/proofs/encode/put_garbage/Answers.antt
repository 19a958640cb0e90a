use Rattle.std.proofs.Common.{◌<◌, ◌^◌, get_or, refl}
use Rattle.bl_edit.specs.declared.edit.BlobGarbage.{BlobGarbage}
use Rattle.bl_edit.specs.Spelling.{garbage_bytes}
use Rattle.bl_edit.proofs.Appending.{more_bytes, more_all}
use Rattle.bl_edit.proofs.encode.put_garbage.Goals as goal

pub loop-file-preserved : goal.loop-file-preserved
loop-file-preserved c =
    let none : BlobGarbage = record { number = 0; count = 0; bytes = 0 } in
    let item : BlobGarbage = get_or c.args.garbage.now c.loop-file.file-index none in
    record {
      bytes = more_bytes garbage_bytes c.args.garbage.now c.loop-file.file-index item none c.args.to.now.items c.loop-file.to.items c.put_file_garbage.new.to.items c.loop-file-test.true refl c.loop-file.invariant.bytes
          c.in_ok-put_file_garbage.ensures.bytes;
      small = more_all (λ (x : BlobGarbage). (x.count < 2 ^ 64) × (x.bytes < 2 ^ 64)) c.args.garbage.now c.loop-file.file-index item none c.loop-file-test.true refl c.loop-file.invariant.small
          c.in_ok-put_file_garbage.ensures.small;
    }
