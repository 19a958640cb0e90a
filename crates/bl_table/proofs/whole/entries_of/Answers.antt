use Rattle.std.proofs.Common.{length, ◌-◌, ◌≡◌, ◌⊎◌, inl, inr, refl, sym, ap, arith, ◌<◌, ◌*◌, ℕ}
use Rattle.bl_table.specs.Blocks.{Contents, cells_at}
use Rattle.bl_table.proofs.BlockLemmas.{block_short, block_uncounted, block_contents}
use Rattle.bl_table.proofs.whole.entries_of.Goals as goal
use Rattle.bl_table.proofs.whole.entries_of.Goals.{then-count-eq0-via-then-count-eq0, then-count-eq0-via-else-count-eq0+then-count-at}

pub returns-then-block-lt4-clause-cells : goal.returns-then-block-lt4-clause-cells
unfolding cells_at
returns-then-block-lt4-clause-cells c = λ offset. ap (λ (b : Contents). b.cells) (sym (block_short offset c.args.block.now c.if-block-lt4.true))

pub returns-then-block-lt4-clause-bare : goal.returns-then-block-lt4-clause-bare
returns-then-block-lt4-clause-bare c = λ offset. ap (λ (b : Contents). b.bare) (sym (block_short offset c.args.block.now c.if-block-lt4.true))

uncounted : (c : goal.Joined-then-count-eq0) → (c.number_at-count.result ≡ 0) ⊎ (length c.args.block.now - 4 < 4 * c.number_at-count.result)
uncounted c = elim c.then-count-eq0.branch [ then-count-eq0-via-then-count-eq0 w ↦ inl w.if-count-eq0.true | then-count-eq0-via-else-count-eq0+then-count-at w ↦ inr w.if-count-at.true ]

pub returns-then-count-eq0-clause-cells : goal.returns-then-count-eq0-clause-cells
unfolding cells_at
returns-then-count-eq0-clause-cells c = λ offset.
    ap (λ (b : Contents). b.cells) (sym (block_uncounted offset _ c.number_at-count.result c.args.block.now c.if-block-lt4.false refl c.number_at-count.ensures (uncounted c)))

pub returns-then-count-eq0-clause-bare : goal.returns-then-count-eq0-clause-bare
returns-then-count-eq0-clause-bare c = λ offset.
    ap (λ (b : Contents). b.bare) (sym (block_uncounted offset _ c.number_at-count.result c.args.block.now c.if-block-lt4.false refl c.number_at-count.ensures (uncounted c)))

some : (n : ℕ) → (n ≡ 0 → ⊥) → 0 < n
some n h = omega arith

pub returns-clause-cells : goal.returns-clause-cells
returns-clause-cells c = λ offset.
    ap (λ (b : Contents). b.cells) (sym (block_contents offset _ c.number_at-count.result c.args.block.now c.if-block-lt4.false refl c.number_at-count.ensures (some _ c.if-count-eq0.false) c.if-count-at.false))

pub returns-clause-bare : goal.returns-clause-bare
returns-clause-bare c = λ offset.
    ap (λ (b : Contents). b.bare) (sym (block_contents offset _ c.number_at-count.result c.args.block.now c.if-block-lt4.false refl c.number_at-count.ensures (some _ c.if-count-eq0.false) c.if-count-at.false))
