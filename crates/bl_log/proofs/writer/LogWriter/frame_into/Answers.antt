use Rattle.std.proofs.Common.{◌≡◌, ◌∙◌, ap, inl, inr}
use Rattle.bl_log.specs.Layout.{layout}
use Rattle.bl_log.proofs.LayoutLemmas.{is_filler, laid_out, log_adds}
use Rattle.bl_log.proofs.writer.LogWriter.frame_into.Goals as goal
use Rattle.bl_log.proofs.writer.LogWriter.frame_into.Goals.{then-room-lt-HEAD, else-room-lt-HEAD}

framed : (c : goal.After-self-1) → c.put_pieces.new.out.items ≡ layout c.args.self.now c.args.payload.now
framed c =
    let is = is_filler c.self.inside.place c.if-room-lt-HEAD.filler c.self.invariant (elim c.if-room-lt-HEAD.branch [
      | then-room-lt-HEAD w ↦ inl (w.if-room-lt-HEAD.true, w.filler-is)
      | else-room-lt-HEAD w ↦ inr (w.if-room-lt-HEAD.false, w.filler-is)
    ]) in
    laid_out c.self.inside.place c.if-room-lt-HEAD.filler _ _ _ c.put_pieces.new.out.items c.args.payload.now is (c.in_ok-reserve_exact.ensures.items ∙ c.clear.ensures.items) c.in_ok-put_zeros.ensures c.in_ok-put_pieces.ensures
    ∙ ap (λ p. layout p c.args.payload.now) c.self.view_is

pub returns-clause-layout : goal.returns-clause-layout
returns-clause-layout c = framed c

pub returns-clause-adds : goal.returns-clause-adds
returns-clause-adds c = λ before payloads there log. log_adds c.args.self.now before c.put_pieces.new.out.items c.args.payload.now payloads (framed c) there log
