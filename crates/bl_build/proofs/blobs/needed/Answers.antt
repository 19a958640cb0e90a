use Rattle.std.proofs.Common.{◌≡◌, ◌<◌, true, false, get_or, length, refl, sym, ap, ◌∙◌, arith}
use Rattle.std.specs.Prelude.{◌==◌, count_by}
use Rattle.bl_build.specs.declared.meta.BlobMeta.{BlobMeta}
use Rattle.bl_build.proofs.Files.{get_any, keeps_more}
use Rattle.bl_build.proofs.blobs.needed.Goals as goal

abbrev zero : BlobMeta
zero = record { number = 0; total = record { count = 0; bytes = 0 }; garbage = record { count = 0; bytes = 0 }; linked = 0 }

pub loop-i-preserved : goal.loop-i-preserved
loop-i-preserved c =
    let item : BlobMeta = get_or c.args.blobs.now c.loop-i.i zero in
    let blob : BlobMeta = record item { linked = c.index.result.now } in
    let inside : c.loop-i.i < length c.in_ok-links.links.items = omega (arith, c.in_ok-links.ensures.length, c.loop-i-test.true) in
    let links : c.index.result.now ≡ count_by (λ t. t.oldest_blob == item.number) c.args.tables.now =
    c.index.ensures ∙ get_any c.in_ok-links.links.items c.loop-i.i c.index.result.now 0 inside ∙ c.in_ok-links.ensures.counts c.loop-i.i zero c.loop-i-test.true in
    keeps_more c.args.tables.now c.args.blobs.now c.loop-i.i item zero blob c.loop-i.reached c.is_reached-reached.result true c.loop-i.kept.items c.push.new.self.items c.loop-i.invariant
    c.loop-i-test.true refl (ap (λ n. record item { linked = n }) links) c.is_reached-reached.ensures (sym c.is_kept.ensures ∙ c.if-not-is_kept.false) c.in_ok-push.ensures.items

pub loop-i-preserved-then-not-is_kept : goal.loop-i-preserved-then-not-is_kept
loop-i-preserved-then-not-is_kept c =
    let item : BlobMeta = get_or c.args.blobs.now c.loop-i.i zero in
    let blob : BlobMeta = record item { linked = c.index.result.now } in
    let inside : c.loop-i.i < length c.in_ok-links.links.items = omega (arith, c.in_ok-links.ensures.length, c.loop-i-test.true) in
    let links : c.index.result.now ≡ count_by (λ t. t.oldest_blob == item.number) c.args.tables.now =
    c.index.ensures ∙ get_any c.in_ok-links.links.items c.loop-i.i c.index.result.now 0 inside ∙ c.in_ok-links.ensures.counts c.loop-i.i zero c.loop-i-test.true in
    keeps_more c.args.tables.now c.args.blobs.now c.loop-i.i item zero blob c.loop-i.reached c.is_reached-reached.result false c.loop-i.kept.items c.loop-i.kept.items c.loop-i.invariant
    c.loop-i-test.true refl (ap (λ n. record item { linked = n }) links) c.is_reached-reached.ensures (sym c.is_kept.ensures ∙ c.if-not-is_kept.true) refl
