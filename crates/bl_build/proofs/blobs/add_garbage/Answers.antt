use Rattle.std.proofs.Common.{◌≡◌, true, get_or, refl, sym, subst, ◌<◌, length, List}
use Rattle.bl_edit.specs.declared.edit.BlobGarbage.{BlobGarbage}
use Rattle.bl_build.specs.declared.meta.BlobMeta.{BlobMeta}
use Rattle.bl_build.specs.Versions.{add_garbage, is_over}
use Rattle.bl_build.proofs.Files.{joins_none, joins_more, joins_over}
use Rattle.bl_build.proofs.blobs.add_garbage.Goals as goal

pub loop-more-preserved-in_default : goal.loop-more-preserved-in_default
loop-more-preserved-in_default c =
    let zero : BlobGarbage = record { number = 0; count = 0; bytes = 0 } in
    let item : BlobGarbage = get_or c.args.garbage.now c.loop-more.more-index zero in
    joins_none c.args.blobs.now.items c.args.garbage.now c.loop-more.more-index c.loop-more.blobs.items item zero c.loop-more.invariant c.loop-more-test.true refl
    (rw (← c.deref.ensures.value) c.in_default.ensures.none)

pub returns-in_default-with_more-clause-found : goal.returns-in_default-with_more-clause-found
returns-in_default-with_more-clause-found c =
    let zero : BlobGarbage = record { number = 0; count = 0; bytes = 0 } in
    let item : BlobGarbage = get_or c.args.garbage.now c.loop-more.more-index zero in
    let now : List BlobMeta = c.loop-more.blobs.items in
    let here : BlobMeta = c.index.result.now in
    let some = c.in-Some.ensures.some in
    let within : c.in-Some.at < length now = subst (λ (bs : List BlobMeta). c.in-Some.at < length bs) c.deref.ensures.value some.0 in
    let number : (get_or now c.in-Some.at here).number ≡ item.number = subst (λ (bs : List BlobMeta). (get_or bs c.in-Some.at here).number ≡ item.number) c.deref.ensures.value (some.1 here) in
    let over : is_over (add_garbage item (get_or now c.in-Some.at here)) ≡ true = subst (λ (b : BlobMeta). is_over (add_garbage item b) ≡ true) c.index.ensures c.in_default-with_more.ensures in
    sym (joins_over c.args.blobs.now.items c.args.garbage.now c.loop-more.more-index now item zero c.in-Some.at here c.loop-more.invariant c.loop-more-test.true refl within number over)

pub loop-more-preserved : goal.loop-more-preserved
loop-more-preserved c =
    let zero : BlobGarbage = record { number = 0; count = 0; bytes = 0 } in
    let item : BlobGarbage = get_or c.args.garbage.now c.loop-more.more-index zero in
    let now : List BlobMeta = c.loop-more.blobs.items in
    let here : BlobMeta = c.index.result.now in
    let some = c.in-Some.ensures.some in
    let within : c.in-Some.at < length now = subst (λ (bs : List BlobMeta). c.in-Some.at < length bs) c.deref.ensures.value some.0 in
    let number : (get_or now c.in-Some.at here).number ≡ item.number = subst (λ (bs : List BlobMeta). (get_or bs c.in-Some.at here).number ≡ item.number) c.deref.ensures.value (some.1 here) in
    let file : BlobMeta = c.in-Some-with_more.file in
    let more : file ≡ add_garbage item (get_or now c.in-Some.at here) = subst (λ (b : BlobMeta). file ≡ add_garbage item b) c.index.ensures c.in-Some-with_more.ensures.0 in
    joins_more c.args.blobs.now.items c.args.garbage.now c.loop-more.more-index now _ item zero c.in-Some.at here file c.loop-more.invariant c.loop-more-test.true refl within number more
    c.in-Some-with_more.ensures.1 refl
