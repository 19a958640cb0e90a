use Rattle.std.proofs.Common.{inl, inr, ap, refl, Err}
use Rattle.bl_shell.proofs.TellLemmas.{tells_count}
use Rattle.bl_shell.proofs.top.tell_last.Goals as goal

pub returns-in-Err-TellFailed-clause-told : goal.returns-in-Err-TellFailed-clause-told
returns-in-Err-TellFailed-clause-told g c = λ shown.
    let f = c.in-Err-TellFailed.ensures.failed shown (ap Err c.in-Err-TellFailed.field-0-is) in
    inr (inl (refl, tells_count c.args.line.now _ _ f.0 f.1))
