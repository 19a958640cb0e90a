use Rattle.std.proofs.Common.{◌≡◌, ◌+◌, ℕ, Bool, true, sym, ◌∙◌, ap, subst, Some}
use Rattle.std.specs.Prelude.{nat_le, is_some, if◌then◌else◌}
use Rattle.bl_out.specs.Outputs.{Out}
use Rattle.bl_out.specs.States.{Becomes, State}
use Rattle.bl_out.specs.Steps.{closed_blob}
use Rattle.bl_out.proofs.FileLemmas.{some_is}
use Rattle.bl_out.proofs.PartLemmas.{at_ok, on_ok}
use Rattle.bl_out.proofs.writer.Output.close_full_blob.Goals as goal

pub returns-in-Some-clause-becomes : goal.returns-in-Some-clause-becomes
returns-in-Some-clause-becomes g c = λ next h is.
    let s = c.args.self.now in
    let r = c.close_blob.result in
    let hand : s.blob ≡ Some c.in-Some.hand = ap (λ (t : State). t.blob) (sym c.self.view_is) ∙ c.in-Some.is in
    let same : h ≡ c.in-Some.hand = some_is (sym is ∙ hand) in
    let full : nat_le c.self.inside.options.blob_file_size c.size.result ≡ true = sym c.is_full.ensures ∙ c.if-is_full.true in
    let due : nat_le s.options.blob_file_size (30 + h.totals.bytes) ≡ true = (λ i. nat_le (sym c.self.view_is i).options.blob_file_size (30 + (same i).totals.bytes)) ∙ ap (λ (n : ℕ). nat_le c.self.inside.options.blob_file_size n) (sym c.size.ensures) ∙ full in
    on_ok r (λ x ok. subst (λ (b : Bool). Becomes g.S.Site next (λ (o : Out). if b then closed_blob o else o) s c.close_blob.new.self c.args.site.now c.close_blob.new.site) (sym due) (at_ok r x ok (c.close_blob.ensures.becomes next (ap is_some is))))
