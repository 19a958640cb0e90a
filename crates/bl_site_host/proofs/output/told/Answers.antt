use Rattle.std.proofs.Common.{ℕ, List, length, take, Result, Ok, Err, OnErr, sym, subst, le_refl}
use Rattle.std.proofs.lemmas.List.{take_all}
use Rattle.std.specs.Io.KnownBytes.{Appends}
use Rattle.std.proofs.KnownBytes.{Appends-kept}
use Rattle.bl_site_host.proofs.output.told.Goals as goal

on_err : {T E P : Type 0} (r : Result T E) → P → OnErr r P
on_err (Ok x) p = tt
on_err (Err e) p = p

pub returns-clause-front : goal.returns-clause-front
returns-clause-front g c =
    let bytes = c.args.bytes.now in
    let old = g.W.Write.contents c.args.output.now in
    let new = g.W.Write.contents c.flush_all.new.self in
    let all : Appends old new bytes = Appends-kept _ _ _ _ c.in_ok-write_whole.ensures.all c.flush_all.ensures.bytes in
    let whole : Appends old new (take (length bytes) bytes) = subst (λ (front : List ℕ). Appends old new front) (sym (take_all (length bytes) bytes (le_refl (length bytes)))) all in
    on_err c.flush_all.result (length bytes, whole)
