use Rattle.std.proofs.Common.{Bool, get_or, refl, sym, ap}
use Rattle.std.specs.Prelude.{◌==◌, not}
use Rattle.std.specs.List.{list_any}
use Rattle.std.specs.Option.{option_map}
use Rattle.bl_edit.specs.declared.edit.BlobGarbage.{BlobGarbage}
use Rattle.bl_build.specs.declared.meta.BlobMeta.{BlobMeta}
use Rattle.bl_build.specs.Listing.{blob_number}
use Rattle.bl_build.proofs.Searching.{find_here, find_more, present}
use Rattle.bl_build.proofs.blobs.first_unknown_blob.Goals as goal

pub returns-in_default : goal.returns-in_default
returns-in_default c =
    let zero : BlobGarbage = record { number = 0; count = 0; bytes = 0 } in
    let test : BlobGarbage → Bool = λ g. not (list_any (λ b. b.number == g.number) c.args.blobs.now) in
    sym (ap (option_map (λ g. g.number))
    (find_here test c.args.garbage.now c.loop-file.file-index (get_or c.args.garbage.now c.loop-file.file-index zero) zero c.loop-file.invariant c.loop-file-test.true refl (ap not c.in_default.ensures.none)))

pub loop-file-preserved : goal.loop-file-preserved
loop-file-preserved c =
    let zero : BlobGarbage = record { number = 0; count = 0; bytes = 0 } in
    let item : BlobGarbage = get_or c.args.garbage.now c.loop-file.file-index zero in
    let test : BlobGarbage → Bool = λ g. not (list_any (λ b. b.number == g.number) c.args.blobs.now) in
    let some = c.in-Some.ensures.some in
    let file : BlobMeta = record { number = 0; total = record { count = 0; bytes = 0 }; garbage = record { count = 0; bytes = 0 }; linked = 0 } in
    find_more test c.args.garbage.now c.loop-file.file-index item zero c.loop-file.invariant c.loop-file-test.true refl
    (ap not (present blob_number item.number c.in-Some.field-0 c.args.blobs.now file some.0 (some.1 file)))
