use Rattle.std.proofs.Common.{◌≡◌, ap, arith, Err, Ok, sym, take, ◌∙◌}
use Rattle.bl_blob.specs.declared.blob.BadBlob.TheVariants.{At}
use Rattle.bl_blob.specs.Reading.{read_footer}
use Rattle.bl_open.proofs.CheckLemmas.{footer_bad, footer_counts, footer_other, footer_place}
use Rattle.bl_open.proofs.checks.footer_fault.Goals as goal

pub overflow_add-result-in-Err-At : goal.overflow_add-result-in-Err-At
overflow_add-result-in-Err-At g c =
    let part = take c.in_ok-read.read c.read_part.new.into in
    let r : read_footer part ≡ Err (At c.in-Err-At.field-0-0 c.in-Err-At.place) = sym c.decode_footer.ensures.reads ∙ c.in-Err-At.is ∙ ap Err c.in-Err-At.field-0-is in
    omega (arith, footer_place part c.in-Err-At.field-0-0 c.in-Err-At.place r)

pub returns-in-Ok-clause-fault : goal.returns-in-Ok-clause-fault
returns-in-Ok-clause-fault g c = λ shown bytes there long.
    let part = take c.in_ok-read.read c.read_part.new.into in
    let r : read_footer part ≡ Ok c.in-Ok.found = sym c.decode_footer.ensures.reads ∙ c.in-Ok.is in
    footer_counts c.args.size c.args.count c.in-Ok.found bytes part long (c.in_ok-read.ensures.part shown bytes there) r c.if-found-count.true

pub returns-in-Ok-2-clause-fault : goal.returns-in-Ok-2-clause-fault
returns-in-Ok-2-clause-fault g c = λ shown bytes there long.
    let part = take c.in_ok-read.read c.read_part.new.into in
    let r : read_footer part ≡ Ok c.in-Ok.found = sym c.decode_footer.ensures.reads ∙ c.in-Ok.is in
    footer_other c.args.size c.args.count c.in-Ok.found bytes part c.requires long (c.in_ok-read.ensures.part shown bytes there) r c.if-found-count.false

pub returns-in-Err-At-clause-fault : goal.returns-in-Err-At-clause-fault
returns-in-Err-At-clause-fault g c = λ shown bytes there long.
    let part = take c.in_ok-read.read c.read_part.new.into in
    let r : read_footer part ≡ Err (At c.in-Err-At.field-0-0 c.in-Err-At.place) = sym c.decode_footer.ensures.reads ∙ c.in-Err-At.is ∙ ap Err c.in-Err-At.field-0-is in
    footer_bad c.args.size c.args.count c.in-Err-At.place c.in-Err-At.field-0-0 bytes part long (c.in_ok-read.ensures.part shown bytes there) r
