use Rattle.std.proofs.Common.{◌∙◌, ap, sym}
use Rattle.bl_code.specs.Order.{same_bytes}
use Rattle.bl_entry.specs.declared.key.Entry.{Entry}
use Rattle.bl_out.specs.States.{Ends, Hand}
use Rattle.bl_out.proofs.SpansLemmas.{other_than_last}
use Rattle.bl_out.proofs.table.TableInHand.ends_before.Goals as goal

pub returns-in-Some : goal.returns-in-Some
returns-in-Some c = λ es s.
    other_than_last es c.args.entry.now c.in-Some.ends c.is_of_user.result (sym s.ends ∙ sym (ap (λ (h : Hand). h.ends) c.self.view_is) ∙ c.in-Some.is)
    (λ k is. c.is_of_user.ensures k (c.as_slice.ensures ∙ ap (λ (x : Ends). x.largest) c.ends.view_is ∙ is) ∙ ap (same_bytes k.user) (c.as_slice-user.ensures ∙ ap (λ (e : Entry). e.key.user) c.entry.view_is))
