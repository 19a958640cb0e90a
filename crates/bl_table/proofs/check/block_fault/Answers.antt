use Rattle.std.proofs.Common.{◌≡◌, ap, sym, subst, refl, arith, inl, inr, length, ◌-◌}
use Rattle.std.specs.Prelude.{IfOk}
use Rattle.bl_table.specs.Blocks.{Contents}
use Rattle.bl_table.specs.Steps.{fault_of}
use Rattle.bl_table.proofs.BlockLemmas.{block_short, block_uncounted, block_contents}
use Rattle.bl_table.proofs.check.block_fault.Goals as goal
use Rattle.bl_table.proofs.check.block_fault.Goals.{then-count-eq0-via-then-count-eq0, then-count-eq0-via-else-count-eq0+then-count-at}

pub returns-then-bytes-lt4 : goal.returns-then-bytes-lt4
returns-then-bytes-lt4 c = ap (λ (b : Contents). b.fault) (sym (block_short c.args.offset c.args.bytes.now c.if-bytes-lt4.true))

pub returns-then-count-eq0 : goal.returns-then-count-eq0
returns-then-count-eq0 c =
    ap (λ (b : Contents). b.fault) (sym (block_uncounted c.args.offset (length c.args.bytes.now - 4) c.number_at-count.result c.args.bytes.now c.if-bytes-lt4.false refl c.number_at-count.ensures (elim c.then-count-eq0.branch [
      | then-count-eq0-via-then-count-eq0 w ↦ inl w.if-count-eq0.true
      | then-count-eq0-via-else-count-eq0+then-count-at w ↦ inr w.if-count-at.true
    ])))

pub returns : goal.returns
returns c =
    let P : Contents → Type 0 = λ b. IfOk c.contents_fault.result (λ f. fault_of f ≡ b.fault) in
    subst P (sym (block_contents c.args.offset (length c.args.bytes.now - 4) c.number_at-count.result c.args.bytes.now c.if-bytes-lt4.false refl c.number_at-count.ensures (omega (arith, c.if-count-eq0.false)) c.if-count-at.false)) c.contents_fault.ensures
