use Rattle.std.proofs.Common.{◌≡◌, ◌<◌, ◌^◌, ◌++◌, take}
use Rattle.std.specs.Prelude.{flat_map}
use Rattle.std.specs.List.{AllByRecursion}
use Rattle.bl_edit.specs.declared.edit.BlobGarbage.{BlobGarbage}
use Rattle.bl_edit.specs.Spelling.{garbage_bytes}
use Rattle.bl_edit.proofs.encode.put_garbage.Given as goal

abbrev pub invariant-loop-file : goal.invariant-loop-file
invariant-loop-file l = record {
  bytes : l.to.items ≡ l.fn.to.items ++ flat_map garbage_bytes (take l.file-index l.garbage);
  small : AllByRecursion (λ (g : BlobGarbage). (g.count < 2 ^ 64) × (g.bytes < 2 ^ 64)) (take l.file-index l.garbage);
}
