use Rattle.std.proofs.Common.{◌∙◌, sym}
use Rattle.bl_edit.proofs.Customs.{passes_cut, passes_end, passes_no_content, passes_required, passes_more, two_less}
use Rattle.bl_edit.proofs.field.pass_customs.Goals as goal

pub returns-in_err-tag : goal.returns-in_err-tag
returns-in_err-tag c = rw c.from_residual.ensures (passes_cut c.args.taker.now c.loop-tag.taker c.loop-tag.invariant c.in_err-tag.ensures.0)

pub returns-then-tag-eq-BLOB_END : goal.returns-then-tag-eq-BLOB_END
returns-then-tag-eq-BLOB_END c =
    passes_end c.args.taker.now c.loop-tag.taker c.in_ok-tag.tag c.take_varint32.new.self c.loop-tag.invariant c.in_ok-tag.ensures c.if-tag-eq-BLOB_END.true

pub returns-in_err-take_slice : goal.returns-in_err-take_slice
returns-in_err-take_slice c =
    rw c.from_residual-in_err-take_slice.ensures
    (passes_no_content c.args.taker.now c.loop-tag.taker c.in_ok-tag.tag c.take_varint32.new.self c.loop-tag.invariant c.in_ok-tag.ensures c.if-tag-eq-BLOB_END.false c.in_err-take_slice.ensures.0)

pub returns-then-is_required : goal.returns-then-is_required
returns-then-is_required c =
    passes_required c.args.taker.now c.loop-tag.taker c.in_ok-tag.tag c.take_varint32.new.self (c.in_ok-take_slice.field-0.now, c.take_slice.new.self) c.loop-tag.invariant c.in_ok-tag.ensures
    c.if-tag-eq-BLOB_END.false c.in_ok-take_slice.ensures (sym c.is_required.ensures ∙ c.if-is_required.true)

pub loop-tag-smaller : goal.loop-tag-smaller
loop-tag-smaller c =
    two_less c.loop-tag.taker c.in_ok-tag.tag c.take_varint32.new.self (c.in_ok-take_slice.field-0.now, c.take_slice.new.self) c.in_ok-tag.ensures c.in_ok-take_slice.ensures

pub loop-tag-preserved : goal.loop-tag-preserved
loop-tag-preserved c =
    passes_more c.args.taker.now c.loop-tag.taker c.in_ok-tag.tag c.take_varint32.new.self (c.in_ok-take_slice.field-0.now, c.take_slice.new.self) c.loop-tag.invariant c.in_ok-tag.ensures
    c.if-tag-eq-BLOB_END.false c.in_ok-take_slice.ensures (sym c.is_required.ensures ∙ c.if-is_required.false)
