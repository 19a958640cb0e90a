use Rattle.std.proofs.Common.{ap, sym, arith, inl, inr}
use Rattle.bl_table.specs.Blocks.{Contents}
use Rattle.bl_table.proofs.BlockLemmas.{block_unfit, first_faulty}
use Rattle.bl_table.proofs.block.whole_fault.Goals as goal
use Rattle.bl_table.proofs.block.whole_fault.Goals.{then-size-lt-TRAILER-via-then-size-lt-TRAILER, then-size-lt-TRAILER-via-else-size-lt-TRAILER+then-size-handle, then-size-lt-TRAILER-via-else-size-lt-TRAILER+else-size-handle+then-handle-size}

pub returns-then-size-lt-TRAILER : goal.returns-then-size-lt-TRAILER
returns-then-size-lt-TRAILER c = ap (λ (b : Contents). b.fault) (sym (block_unfit c.args.bytes.now c.args.handle (elim c.then-size-lt-TRAILER.branch [
  | then-size-lt-TRAILER-via-then-size-lt-TRAILER w ↦ inl (λ e. let t = w.if-size-lt-TRAILER.true in omega arith)
  | then-size-lt-TRAILER-via-else-size-lt-TRAILER+then-size-handle w ↦ inl (λ e. w.if-size-handle.true (omega arith))
  | then-size-lt-TRAILER-via-else-size-lt-TRAILER+else-size-handle+then-handle-size w ↦ inr (let t = w.if-handle-size.true in let s = w.if-size-handle.false in let l = w.if-size-lt-TRAILER.false in omega arith)
])))

pub returns : goal.returns
returns c =
    let s = c.if-size-handle.false in
    let l = c.if-size-lt-TRAILER.false in
    let f = c.if-handle-size.false in
    first_faulty c.args.bytes.now c.args.handle _ _ _ (omega arith) (omega arith) (rw c.split_at.ensures.front at c.in_ok-of_block.ensures)
    (rw (c.split_at.ensures.front, c.split_at.ensures.back) at c.trailer_fault-of_trailer.ensures) c.first_of.ensures
