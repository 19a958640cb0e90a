use Rattle.std.proofs.Common.{◌≡◌, ◌<◌, ◌≤◌, ◌∙◌, ap, ltb, rules, sym, subst, List, get_or, length, refl, arith}
use Rattle.std.specs.Prelude.{map}
use Rattle.std.specs.List.Sorted.{IsNonDecreasingBy}
use Rattle.std.proofs.lemmas.List.Sorted.{IsPartitionPoint-from_clause, IsPartitionedBy-ltb}
use Rattle.bl_edit.specs.declared.edit.BlobAddition.{BlobAddition}
use Rattle.bl_build.specs.declared.meta.BlobMeta.{BlobMeta}
use Rattle.bl_build.specs.Listing.{all_placed, blob_number}
use Rattle.bl_build.specs.Versions.{new_blob}
use Rattle.bl_build.proofs.Placing.{get_mapped, insert_more, length_mapped, take_whole}
use Rattle.bl_build.proofs.step.with_blobs.Goals as goal

pub loop-addition-preserved : goal.loop-addition-preserved
loop-addition-preserved c =
    let zero : BlobAddition = record { number = 0; count = 0; bytes = 0 } in
    let item : BlobAddition = get_or c.args.added.now c.loop-addition.addition-index zero in
    let all : List BlobMeta = map new_blob c.args.added.now in
    let inside : c.loop-addition.addition-index < length all = omega (arith, length_mapped new_blob c.args.added.now, c.loop-addition-test.true) in
    let is : new_blob item ≡ get_or all c.loop-addition.addition-index (new_blob zero) = sym (get_mapped new_blob c.args.added.now c.loop-addition.addition-index zero) in
    let seen : List BlobMeta = c.deref.result.now in
    let rise : IsNonDecreasingBy blob_number seen = subst (IsNonDecreasingBy blob_number) (sym c.deref.ensures.value) c.loop-addition.invariant.rise in
    let parted = IsPartitionedBy-ltb blob_number seen item.number rise in
    let point = IsPartitionPoint-from_clause (λ (b : BlobMeta). ltb b.number item.number) _ _ c.partition_point-at.ensures.partitioned parted (λ a r q k. search rules) in
    let more = insert_more blob_number all c.args.base.now c.loop-addition.blobs.items seen c.insert.new.self.items c.loop-addition.addition-index c.partition_point-at.result item.number
    c.new_blob.result (new_blob item) (new_blob zero) c.deref.ensures.value c.loop-addition.invariant.rise c.loop-addition.invariant.placed inside is c.new_blob.ensures refl
    c.partition_point-at.ensures.bound point c.in_ok-insert.ensures.items in
    record { placed = more.0; rise = more.1 }

pub returns : goal.returns
returns c =
    let all : List BlobMeta = map new_blob c.args.added.now in
    let whole : length all ≤ c.loop-addition.addition-index = omega (arith, length_mapped new_blob c.args.added.now, c.loop-addition-test.false) in
    c.loop-addition.invariant.placed ∙ ap (λ xs. all_placed blob_number xs c.args.base.now) (take_whole all c.loop-addition.addition-index whole)
