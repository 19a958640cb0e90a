use Rattle.std.proofs.Common.{◌≡◌, ◌+◌, [], ◌∷◌, ◌++◌, length, refl, ◌∙◌, ap, subst, arith, true}
use Rattle.std.proofs.lemmas.Result.{err_from_is_err_and}
use Rattle.bl_names.specs.Names.{name_of}
use Rattle.bl_names.specs.declared.name.FileName.TheVariants.{Blob}
use Rattle.bl_blob.specs.BlobFile.{Record, given, totals_of}
use Rattle.bl_out.specs.Making.{Follows}
use Rattle.bl_out.specs.Outputs.{record_of}
use Rattle.bl_out.specs.States.{BlobHand}
use Rattle.bl_out.specs.contracts.writer.Output.{the_view}
use Rattle.bl_out.proofs.BecomeLemmas.{acts_once}
use Rattle.bl_out.proofs.PartLemmas.{blob_among, drawn_same_blob, none_sealed, not_set, still_with, value_goes}
use Rattle.bl_out.proofs.writer.Output.store.Goals as goal

pub invariant_of-self-in_err-write : goal.invariant_of-self-in_err-write
invariant_of-self-in_err-write g c =
    (drawn_same_blob (the_view c.self.inside) c.in-Some.hand c.write.new.self true c.in-Some.is (ap (λ (h : BlobHand). h.number) c.write.ensures.totals) c.self.invariant.0, λ unset. not_set unset)

pub returns-in_err-write-clause-acts : goal.returns-in_err-write-clause-acts
returns-in_err-write-clause-acts g c =
    let p = err_from_is_err_and c.from_residual-in_err-write.result c.from_residual-in_err-write.ensures.1 in
    let a = c.in_err-write.ensures in
    let h = c.in-Some.hand in
    rw (p.1, p.2) (acts_once g.S.Site _ _ _ c.args.site.now c.write.new.site (name_of (Blob h.number)) refl (blob_among (the_view c.self.inside) h c.in-Some.is c.self.invariant.0 (name_of (Blob h.number)) refl) a.touches a.tells_nothing a.asked a.causes (λ is. a.disk cc))

pub returns-clause-becomes : goal.returns-clause-becomes
returns-clause-becomes g c = λ next.
    let s = the_view c.self.inside in
    let e = c.args.entry.now in
    let h = c.in-Some.hand in
    let k = c.write.new.self in
    let a = c.in_ok-write.ensures in
    let key = c.user_of-key.result.now in
    let value = c.as_slice-value.result.now in
    let r : Record = record { key = key; value = value } in
    let is : r ≡ record_of e = λ i. record { key = c.user_of-key.ensures i; value = c.as_slice-value.ensures i } in
    let old = g.S.Site.disk c.args.site.now in
    let new = g.S.Site.disk c.write.new.site in
    let unsealed : s.sealed ≡ 0 = rw (← c.self.view_is) at c.requires.unsealed in
    rw (← c.self.view_is)
    (value_goes g.S.Site c.names_one.ensures s c.self.invariant.0 next c.args.site.now c.write.new.site e h k c.in-Some.is (none_sealed s.sealed (length s.tables + length s.blobs) unsealed)
    (ap (λ (x : BlobHand). x.number) c.write.ensures.totals)
    (λ rs are. ap (λ (x : BlobHand). x.totals) c.write.ensures.totals ∙ c.in-Some-totals_behind.ensures.totals rs r are refl refl ∙ ap (λ (x : Record). totals_of (rs ++ x ∷ [])) is)
    (λ shown rs are. subst (λ (x : Record). Follows (name_of (Blob h.number)) (given rs) (given (rs ++ x ∷ [])) old new) is (a.appended shown rs are))
    c.write.ensures.certain
    (λ shown. still_with (name_of (Blob h.number)) old new (a.touches.others shown) (a.still shown)))

pub returns-clause-filled : goal.returns-clause-filled
returns-clause-filled g c =
    let count : c.write.new.self.totals.count ≡ c.in-Some-totals_behind.totals.count = ap (λ (h : BlobHand). h.totals.count) c.write.ensures.totals in
    (refl, omega (arith, count, c.in-Some-totals_behind.ensures.count))

pub returns-clause-acts : goal.returns-clause-acts
returns-clause-acts g c =
    let a = c.in_ok-write.ensures in
    let h = c.in-Some.hand in
    acts_once g.S.Site _ _ _ c.args.site.now c.write.new.site (name_of (Blob h.number)) refl (blob_among (the_view c.self.inside) h c.in-Some.is c.self.invariant.0 (name_of (Blob h.number)) refl) a.touches a.tells_nothing a.asked tt (λ is. absurd cc)
