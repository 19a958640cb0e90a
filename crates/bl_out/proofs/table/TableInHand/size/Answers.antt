use Rattle.std.proofs.Common.{sym, subst}
use Rattle.bl_out.specs.Outputs.{items_of, open_bytes}
use Rattle.bl_out.specs.States.{Spans}
use Rattle.bl_out.proofs.SpansLemmas.{size_is}
use Rattle.bl_out.proofs.table.TableInHand.size.Goals as goal

pub returns : goal.returns
returns c = λ es s.
    let was : Spans es _ = subst (Spans es) (sym c.self.view_is) s in
    size_is es _ c.size.result was c.self.invariant.2 (c.size.ensures (items_of es) (open_bytes es) was.added)
