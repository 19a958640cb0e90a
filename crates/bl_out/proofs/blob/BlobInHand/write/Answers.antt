use Rattle.std.specs.Prelude.{◌==◌, IsSome}
use Rattle.std.proofs.Common.{◌≡◌, List, ℕ, refl, ◌∙◌, ap, subst}
use Rattle.bl_names.specs.Names.{name_of}
use Rattle.bl_names.specs.declared.name.FileName.TheVariants.{Blob}
use Rattle.bl_blob.specs.BlobFile.{Record}
use Rattle.bl_out.specs.States.{BlobHand}
use Rattle.bl_out.proofs.AppendLemmas.{ok_map, piece, record_follows, there_behind}
use Rattle.bl_out.proofs.blob.BlobInHand.write.Goals as goal

pub returns-clause-appended : goal.returns-clause-appended
returns-clause-appended g c = λ shown.
    let s = g.S.Site in
    let r : Record = record { key = c.args.key.now; value = c.args.value.now } in
    let totals = c.self.inside.totals in
    let name = name_of (Blob c.args.self.now.number) in
    let called = c.as_str.result.now in
    let same : called ≡ name = c.as_str.ensures.value ∙ c.self.invariant.1 ∙ ap (λ (h : BlobHand). name_of (Blob h.number)) c.self.view_is in
    ok_map c.append_record.result (λ a rs is. record_follows name called rs r totals (s.disk c.args.site.now) (s.disk c.append_record.new.site) same (ap (λ (h : BlobHand). h.totals) c.self.view_is ∙ is) a)
    (c.append_record.ensures.appended shown (piece (totals.count == 0) r) refl)

pub returns-clause-still : goal.returns-clause-still
returns-clause-still g c = λ shown.
    let s = g.S.Site in
    let r : Record = record { key = c.args.key.now; value = c.args.value.now } in
    let totals = c.self.inside.totals in
    let name = name_of (Blob c.args.self.now.number) in
    let called = c.as_str.result.now in
    let bytes : List ℕ = piece (totals.count == 0) r in
    let same : called ≡ name = c.as_str.ensures.value ∙ c.self.invariant.1 ∙ ap (λ (h : BlobHand). name_of (Blob h.number)) c.self.view_is in
    ok_map c.append_record.result (λ a. subst (λ n. IsSome (s.disk c.append_record.new.site n)) same (there_behind called bytes (s.disk c.args.site.now) (s.disk c.append_record.new.site) a))
    (c.append_record.ensures.appended shown bytes refl)
