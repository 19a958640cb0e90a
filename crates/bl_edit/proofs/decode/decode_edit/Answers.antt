use Rattle.std.proofs.Common.{◌<◌, length, arith}
use Rattle.bl_edit.specs.Found.{field_of}
use Rattle.bl_edit.proofs.Fields.{goes_start, goes_cut, goes_fault, goes_more, goes_end, field_less}
use Rattle.bl_edit.proofs.InBounds.{reads_in_bounds}
use Rattle.bl_edit.proofs.decode.decode_edit.Goals as goal

pub loop-taker-init : goal.loop-taker-init
loop-taker-init c = rw c.new-edit.ensures (goes_start c.args.bytes.now c.over-taker.result c.over-taker.ensures)

pub returns-in_default-clause-exact : goal.returns-in_default-clause-exact
returns-in_default-clause-exact c =
    let some : 0 < length c.loop-taker.taker.left = omega (arith, c.left.ensures, c.loop-taker-test.true) in
    rw c.place-place.ensures (goes_cut c.args.bytes.now c.loop-taker.taker c.loop-taker.edit c.loop-taker.invariant some c.in_default.ensures.0)

pub returns-in_default-take_field-clause-exact : goal.returns-in_default-take_field-clause-exact
returns-in_default-take_field-clause-exact c =
    let some : 0 < length c.loop-taker.taker.left = omega (arith, c.left.ensures, c.loop-taker-test.true) in
    rw c.place-place.ensures
    (goes_fault c.args.bytes.now c.loop-taker.taker c.loop-taker.edit c.in-Some.tag c.take_varint32.new.self c.loop-taker.invariant some c.in-Some.ensures c.in_default-take_field.ensures)

pub loop-taker-smaller : goal.loop-taker-smaller
loop-taker-smaller c =
    field_less c.loop-taker.taker c.in-Some.tag c.take_varint32.new.self (field_of c.in-Some-take_field.field) c.take_field.new.taker c.in-Some.ensures c.in-Some-take_field.ensures

pub loop-taker-preserved : goal.loop-taker-preserved
loop-taker-preserved c =
    let some : 0 < length c.loop-taker.taker.left = omega (arith, c.left.ensures, c.loop-taker-test.true) in
    rw c.in_ok-add_field.ensures
    (goes_more c.args.bytes.now c.loop-taker.taker c.loop-taker.edit c.in-Some.tag c.take_varint32.new.self (field_of c.in-Some-take_field.field) c.take_field.new.taker c.loop-taker.invariant some
    c.in-Some.ensures c.in-Some-take_field.ensures)

pub returns-clause-exact : goal.returns-clause-exact
returns-clause-exact c = goes_end c.args.bytes.now c.loop-taker.taker c.loop-taker.edit c.loop-taker.invariant (omega (arith, c.left.ensures, c.loop-taker-test.false))

pub returns-clause-bounds : goal.returns-clause-bounds
returns-clause-bounds c =
    reads_in_bounds c.args.bytes.now c.loop-taker.edit
    (goes_end c.args.bytes.now c.loop-taker.taker c.loop-taker.edit c.loop-taker.invariant (omega (arith, c.left.ensures, c.loop-taker-test.false)))
