use Rattle.std.proofs.Common.{◌<◌, ◌^◌, get_or, refl}
use Rattle.bl_edit.specs.declared.edit.BlobAddition.{BlobAddition}
use Rattle.bl_edit.specs.Spelling.{addition_bytes}
use Rattle.bl_edit.proofs.Appending.{more_bytes, more_all}
use Rattle.bl_edit.proofs.encode.put_blobs.Goals as goal

pub loop-blob-preserved : goal.loop-blob-preserved
loop-blob-preserved c =
    let none : BlobAddition = record { number = 0; count = 0; bytes = 0 } in
    let item : BlobAddition = get_or c.args.blobs.now c.loop-blob.blob-index none in
    record {
      bytes = more_bytes addition_bytes c.args.blobs.now c.loop-blob.blob-index item none c.args.to.now.items c.loop-blob.to.items c.put_blob.new.to.items c.loop-blob-test.true refl c.loop-blob.invariant.bytes
          c.in_ok-put_blob.ensures.bytes;
      small = more_all (λ (x : BlobAddition). (x.count < 2 ^ 64) × (x.bytes < 2 ^ 64)) c.args.blobs.now c.loop-blob.blob-index item none c.loop-blob-test.true refl c.loop-blob.invariant.small
          c.in_ok-put_blob.ensures.small;
    }
