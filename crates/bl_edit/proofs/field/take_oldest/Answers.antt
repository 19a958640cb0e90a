use Rattle.std.proofs.Common.{◌∙◌, sym}
use Rattle.bl_edit.proofs.Customs.{goes_cut, goes_end, goes_no_content, goes_fault, goes_more, two_less}
use Rattle.bl_edit.proofs.field.take_oldest.Goals as goal

pub returns-in_err-tag : goal.returns-in_err-tag
returns-in_err-tag c = rw c.from_residual.ensures (goes_cut c.args.taker.now c.loop-tag.taker c.loop-tag.oldest c.loop-tag.invariant c.in_err-tag.ensures.0)

pub returns-then-tag-eq-TABLE_END : goal.returns-then-tag-eq-TABLE_END
returns-then-tag-eq-TABLE_END c =
    goes_end c.args.taker.now c.loop-tag.taker c.loop-tag.oldest c.in_ok-tag.tag c.take_varint32.new.self c.loop-tag.invariant c.in_ok-tag.ensures c.if-tag-eq-TABLE_END.true

pub returns-in_err-content : goal.returns-in_err-content
returns-in_err-content c =
    rw c.from_residual-in_err-content.ensures
    (goes_no_content c.args.taker.now c.loop-tag.taker c.loop-tag.oldest c.in_ok-tag.tag c.take_varint32.new.self c.loop-tag.invariant c.in_ok-tag.ensures c.if-tag-eq-TABLE_END.false
    c.in_err-content.ensures.0)

pub returns-in_err-oldest : goal.returns-in_err-oldest
returns-in_err-oldest c =
    rw c.from_residual-in_err-oldest.ensures
    (goes_fault c.args.taker.now c.loop-tag.taker c.loop-tag.oldest c.in_ok-tag.tag c.take_varint32.new.self (c.in_ok-content.content.now, c.take_slice.new.self) c.loop-tag.invariant
    c.in_ok-tag.ensures c.if-tag-eq-TABLE_END.false c.in_ok-content.ensures (sym c.custom.ensures ∙ c.in_err-oldest.was))

pub loop-tag-smaller : goal.loop-tag-smaller
loop-tag-smaller c = two_less c.loop-tag.taker c.in_ok-tag.tag c.take_varint32.new.self (c.in_ok-content.content.now, c.take_slice.new.self) c.in_ok-tag.ensures c.in_ok-content.ensures

pub loop-tag-preserved : goal.loop-tag-preserved
loop-tag-preserved c =
    goes_more c.args.taker.now c.loop-tag.taker c.loop-tag.oldest c.in_ok-tag.tag c.take_varint32.new.self (c.in_ok-content.content.now, c.take_slice.new.self) c.in_ok-oldest.oldest c.loop-tag.invariant
    c.in_ok-tag.ensures c.if-tag-eq-TABLE_END.false c.in_ok-content.ensures (sym c.custom.ensures ∙ c.in_ok-oldest.was)
