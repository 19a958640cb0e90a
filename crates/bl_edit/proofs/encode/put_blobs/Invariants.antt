use Rattle.std.proofs.Common.{◌≡◌, ◌<◌, ◌^◌, ◌++◌, take}
use Rattle.std.specs.Prelude.{flat_map}
use Rattle.std.specs.List.{AllByRecursion}
use Rattle.bl_edit.specs.declared.edit.BlobAddition.{BlobAddition}
use Rattle.bl_edit.specs.Spelling.{addition_bytes}
use Rattle.bl_edit.proofs.encode.put_blobs.Given as goal

abbrev pub invariant-loop-blob : goal.invariant-loop-blob
invariant-loop-blob l = record {
  bytes : l.to.items ≡ l.fn.to.items ++ flat_map addition_bytes (take l.blob-index l.blobs);
  small : AllByRecursion (λ (b : BlobAddition). (b.count < 2 ^ 64) × (b.bytes < 2 ^ 64)) (take l.blob-index l.blobs);
}
