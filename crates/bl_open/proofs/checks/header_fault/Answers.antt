use Rattle.std.proofs.Common.{◌≡◌, ◌+◌, ap, arith, Err, Ok, Some, sym, take, ◌∙◌}
use Rattle.std.specs.Result.{result_err}
use Rattle.bl_blob.specs.declared.blob.BadBlob.TheVariants.{At}
use Rattle.bl_blob.specs.Reading.{read_header}
use Rattle.bl_open.specs.Checks.{from_place}
use Rattle.bl_open.proofs.CheckLemmas.{header_read}
use Rattle.bl_open.proofs.checks.header_fault.Goals as goal

pub returns-in-Ok-clause-fault : goal.returns-in-Ok-clause-fault
returns-in-Ok-clause-fault g c = λ shown bytes there.
    let part = take c.in_ok-count.count c.read_part.new.into in
    let r : read_header part ≡ Ok tt = sym c.decode_header.ensures.reads ∙ c.in-Ok.is in
    ap (λ x. result_err (from_place 0 x)) (sym r) ∙ header_read bytes part (c.in_ok-count.ensures.part shown bytes there)

pub returns-in-Err-At-clause-fault : goal.returns-in-Err-At-clause-fault
returns-in-Err-At-clause-fault g c = λ shown bytes there.
    let part = take c.in_ok-count.count c.read_part.new.into in
    let place = c.in-Err-At.place in
    let r : read_header part ≡ Err (At c.in-Err-At.field-0-0 place) = sym c.decode_header.ensures.reads ∙ c.in-Err-At.is ∙ ap Err c.in-Err-At.field-0-is in
    let at : place ≡ 0 + place = omega arith in
    ap Some at ∙ ap (λ x. result_err (from_place 0 x)) (sym r) ∙ header_read bytes part (c.in_ok-count.ensures.part shown bytes there)
