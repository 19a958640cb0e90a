use Rattle.std.proofs.Common.{Result, Ok, Err, OnOk}
use Rattle.std.proofs.KnownBytes.{Appends-trans}
use Rattle.bl_main.proofs.telling.tell_advice.Goals as goal

on_ok : {T E P Q : Type 0} (r : Result T E) → (P → Q) → OnOk r P → OnOk r Q
on_ok (Ok x) f p = f p
on_ok (Err e) f p = tt

pub returns-clause-said : goal.returns-clause-said
returns-clause-said g c = on_ok c.write_all-3.result
    (λ last fails. (c.as_bytes.result.now, Appends-trans _ _ _ _ _ c.in_ok-write_all.ensures.bytes (Appends-trans _ _ _ _ _ c.in_ok-write_all-2.ensures.bytes last)))
    c.write_all-3.ensures.bytes
