use Rattle.std.proofs.Common.{◌≡◌, ◌+◌, ℕ, Bool, length, refl, sym, ◌∙◌, ap, subst, arith, true, false, Some, None, [], ◌∷◌, ◌++◌}
use Rattle.bl_blob.specs.BlobFile.{totals_of}
use Rattle.std.specs.Prelude.{is_some}
use Rattle.std.proofs.lemmas.Result.{err_from_is_err_and}
use Rattle.bl_site.specs.Calls.{Creates}
use Rattle.bl_site.specs.Disk.{Name}
use Rattle.bl_names.specs.Names.{IsNumber, name_of}
use Rattle.bl_names.specs.declared.name.FileName.TheVariants.{Blob}
use Rattle.bl_out.specs.States.{Becomes, BlobHand}
use Rattle.bl_out.specs.Steps.{with_blob_room}
use Rattle.bl_out.specs.contracts.writer.Output.{the_view}
use Rattle.bl_out.proofs.BecomeLemmas.{acts_once}
use Rattle.bl_out.proofs.PartLemmas.{drawn_more, drawn_blob, new_blob_among, none_is, none_sealed, not_set, blob_starts}
use Rattle.bl_out.proofs.writer.Output.begin_blob.Goals as goal

pub invariant_of-self-in_err-create : goal.invariant_of-self-in_err-create
invariant_of-self-in_err-create g c =
    let n = c.next-number.result in
    let is : IsNumber n = (c.next-number.ensures.some, omega arith) in
    rw c.in_ok-push.ensures.items (drawn_more (the_view c.self.inside) n true c.self.invariant.0 is, λ unset. not_set unset)

pub returns-in_err-create-clause-acts : goal.returns-in_err-create-clause-acts
returns-in_err-create-clause-acts g c =
    let n = c.next-number.result in
    let p = err_from_is_err_and c.from_residual-in_err-create.result c.from_residual-in_err-create.ensures.1 in
    let a = c.in_err-create.ensures in
    let name : c.name.result.now ≡ name_of (Blob n) = c.name.ensures ∙ ap (λ (h : BlobHand). name_of (Blob h.number)) c.in_ok-hand.ensures.started in
    rw (p.1, p.2, c.in_ok-push.ensures.items) (acts_once g.S.Site _ _ _ c.args.site.now c.create.new.site c.name.result.now refl (new_blob_among c.self.inside.drawn.items n c.name.result.now name) a.touches a.tells_nothing a.asked a.causes a.disk)

pub invariant_of-self-2 : goal.invariant_of-self-2
invariant_of-self-2 g c =
    let n = c.next-number.result in
    let is : IsNumber n = (c.next-number.ensures.some, omega arith) in
    rw c.in_ok-push.ensures.items (drawn_blob (the_view c.self.inside) n true c.in_ok-hand.hand (ap (λ (h : BlobHand). h.number) c.in_ok-hand.ensures.started) c.self.invariant.0 is, λ unset. not_set unset)

pub returns-clause-becomes : goal.returns-clause-becomes
returns-clause-becomes g c =
    let s = the_view c.self.inside in
    let next = c.args.numbers.now in
    let is : IsNumber next = (omega (arith, c.next-number.ensures.some, c.next-number.ensures.value), omega (arith, c.next-number.ensures.value)) in
    let old = g.S.Site.disk c.args.site.now in
    let new = g.S.Site.disk c.create.new.site in
    let name : c.name.result.now ≡ name_of (Blob next) = c.name.ensures ∙ ap (λ (h : BlobHand). name_of (Blob h.number)) c.in_ok-hand.ensures.started ∙ ap (λ (n : ℕ). name_of (Blob n)) c.next-number.ensures.value in
    let unsealed : s.sealed ≡ 0 = rw (← c.self.view_is) at c.requires.unsealed in
    let empty : is_some s.blob ≡ false = cc in
    let none : s.blob ≡ None = none_is s.blob empty in
    rw (← c.self.view_is, c.in_ok-push.ensures.items, c.next-number.ensures.value)
    (subst (λ (held : Bool). Becomes g.S.Site next (with_blob_room held next) s (record s { blob = Some c.in_ok-hand.hand; drawn = s.drawn ++ next ∷ []; failed = true }) c.args.site.now c.create.new.site) (sym empty) (blob_starts g.S.Site c.names_one.ensures s c.self.invariant.0 next c.args.site.now c.create.new.site c.in_ok-hand.hand none (none_sealed s.sealed (length s.tables + length s.blobs) unsealed) is
    (c.in_ok-hand.ensures.started ∙ ap (λ (n : ℕ). record { number = n; totals = totals_of [] }) c.next-number.ensures.value) (λ shown. subst (λ (n : Name). Creates n old new) name (c.in_ok-create.ensures.created shown)) c.in_ok-create.ensures.certain))

pub returns-clause-acts : goal.returns-clause-acts
returns-clause-acts g c =
    let n = c.next-number.result in
    let a = c.in_ok-create.ensures in
    let name : c.name.result.now ≡ name_of (Blob n) = c.name.ensures ∙ ap (λ (h : BlobHand). name_of (Blob h.number)) c.in_ok-hand.ensures.started in
    rw c.in_ok-push.ensures.items (acts_once g.S.Site _ _ _ c.args.site.now c.create.new.site c.name.result.now refl (new_blob_among c.self.inside.drawn.items n c.name.result.now name) a.touches a.tells_nothing a.asked a.causes a.disk)
