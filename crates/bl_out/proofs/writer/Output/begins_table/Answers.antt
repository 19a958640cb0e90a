use Rattle.std.proofs.Common.{◌≡◌, ◌∙◌, sym, ap, Some}
use Rattle.std.specs.Prelude.{nat_le, not, ◌&&◌}
use Rattle.bl_out.specs.States.{State}
use Rattle.bl_out.proofs.AddLemmas.{begins_behind, begins_without}
use Rattle.bl_out.proofs.writer.Output.begins_table.Goals as goal

pub returns-in-None-clause-begins : goal.returns-in-None-clause-begins
returns-in-None-clause-begins c = λ o is. begins_without o c.args.entry.now c.args.self.now is (ap (λ (s : State). s.table) (sym c.self.view_is) ∙ c.in-None.is)

pub returns-in-Some-clause-begins : goal.returns-in-Some-clause-begins
returns-in-Some-clause-begins c = λ o is.
    let hand : c.args.self.now.table ≡ Some c.in-Some.hand = ap (λ (s : State). s.table) (sym c.self.view_is) ∙ c.in-Some.is in
    c.is_due.ensures ∙ (λ i. not (c.self.view_is i).one_table && (nat_le (c.self.view_is i).options.table_size c.size.result && c.ends_before.result)) ∙ (begins_behind o c.args.entry.now c.args.self.now c.in-Some.hand c.size.result c.ends_before.result is hand c.size.ensures c.ends_before.ensures)
