use Rattle.std.proofs.Common.{◌≡◌, Bool, false, sym, ◌∙◌, subst}
use Rattle.bl_out.specs.States.{Becomes}
use Rattle.bl_out.specs.Steps.{with_written}
use Rattle.bl_out.specs.Written.{is_large}
use Rattle.bl_out.proofs.PartLemmas.{at_ok, on_ok}
use Rattle.bl_out.proofs.writer.Output.write_entry.Goals as goal

pub returns-clause-becomes : goal.returns-clause-becomes
returns-clause-becomes g c =
    let next = c.args.numbers.now in
    let e = c.args.entry.now in
    let r = c.put.result in
    let small : is_large c.args.self.now.options.min_blob_size e ≡ false = (λ i. is_large (sym c.self.view_is i).options.min_blob_size e) ∙ sym c.is_large.ensures ∙ c.if-is_large.false in
    on_ok r (λ x is. subst (λ (l : Bool). Becomes g.S.Site next (with_written l next e) c.args.self.now c.put.new.self c.args.site.now c.put.new.site) (sym small) (at_ok r x is (c.put.ensures.becomes next)))
