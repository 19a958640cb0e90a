use Rattle.std.proofs.Common.{◌≡◌, take}
use Rattle.std.specs.Prelude.{map}
use Rattle.std.specs.List.Sorted.{IsNonDecreasingBy}
use Rattle.bl_build.specs.Listing.{all_placed, blob_number}
use Rattle.bl_build.specs.Versions.{new_blob}
use Rattle.bl_build.proofs.step.with_blobs.Given as goal

abbrev pub invariant-loop-addition : goal.invariant-loop-addition
invariant-loop-addition l = record {
  placed : l.blobs.items ≡ all_placed blob_number (take l.addition-index (map new_blob l.added)) l.fn.base;
  rise : IsNonDecreasingBy blob_number l.blobs.items;
}
