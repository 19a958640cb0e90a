use Rattle.std.proofs.Common.{false}
use Rattle.bl_out.specs.Outputs.{sealed_next}
use Rattle.bl_out.specs.States.{Becomes}
use Rattle.bl_out.specs.contracts.writer.Output.{the_view}
use Rattle.bl_out.proofs.AddLemmas.{becomes_usable}
use Rattle.bl_out.proofs.writer.Output.seal.Goals.{then-is_some+in_ok-sealed, else-is_some+in_ok-sealed-2}
use Rattle.bl_out.proofs.writer.Output.seal.Goals as goal

pub returns-clause-sealed : goal.returns-clause-sealed
returns-clause-sealed g c = λ next.
    let all : Becomes g.S.Site next sealed_next c.args.self.now c.if-is_some.self c.args.site.now c.if-is_some.site = elim c.if-is_some.branch [
      | then-is_some+in_ok-sealed w ↦ rw (w.self-is, w.site-is) (w.in_ok-sealed.ensures.becomes next)
      | else-is_some+in_ok-sealed-2 w ↦ rw (w.self-is, w.site-is) (w.in_ok-sealed-2.ensures.becomes next)
    ] in
    becomes_usable g.S.Site next sealed_next c.args.self.now (the_view c.self-2.inside) c.args.site.now c.if-is_some.site false (rw c.self-2.view_is all)
