use Rattle.std.proofs.Common.{◌≡◌, ◌+◌, length, List, ℕ, ap, sym, subst}
use Rattle.std.specs.Prelude.{MatchOption}
use Rattle.bl_out.specs.Outputs.{items_of, open_bytes}
use Rattle.bl_out.specs.States.{Ends, IsHandOf, Spans}
use Rattle.bl_out.proofs.SpansLemmas.{finished_closed, no_ends}
use Rattle.bl_out.proofs.table.TableInHand.finish.Goals as goal

pub returns-clause-rest : goal.returns-clause-rest
returns-clause-rest c = λ es s.
    let was : Spans es _ = subst (Spans es) (sym c.self.view_is) s in
    sym (c.in_ok-rest.ensures.table (items_of es) (open_bytes es) was.added)

pub returns-clause-closed : goal.returns-clause-closed
returns-clause-closed c = λ t is.
    let was : IsHandOf t _ = subst (IsHandOf t) (sym c.self.view_is) is in
    finished_closed t _ c.in_ok-rest.rest _ c.unwrap_or.result _ was
    (λ es s. sym (c.in_ok-rest.ensures.table (items_of es) (open_bytes es) s.added))
    (ap (λ (bs : List ℕ). c.self.inside.written + length bs) c.as_slice.ensures)
    (subst (λ (e : Ends). MatchOption c.self.inside.ends (e ≡ no_ends) (λ x. e ≡ x)) (sym c.ends.view_is) c.in_ok-ends.ensures.copy) c.unwrap_or.ensures
