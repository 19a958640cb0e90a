use Rattle.std.proofs.Common.{◌≡◌, ◌∙◌, ap, sym, subst, refl, arith, length, length-take-le, map, take, ◌-◌, ◌*◌, ◌≤◌, ℕ, List, Ok, None, Option}
use Rattle.bl_table.specs.declared.check.Fault.{Fault}
use Rattle.bl_table.specs.declared.handle.Handle.{Handle}
use Rattle.bl_table.specs.Steps.{fault_of}
use Rattle.bl_table.specs.Blocks.{Contents, contents, cells_in, entry_of, block_at}
use Rattle.bl_table.proofs.BlockLemmas.{no_memory, read_fault, IsGood, is_good, has_count, good_limit}
use Rattle.bl_table.proofs.block.Block.parse.Goals as goal

good_here : (bytes : List ℕ) (h : Handle) (fault : Option Fault) → fault_of fault ≡ (block_at h bytes).fault → fault ≡ None → IsGood bytes h
good_here bytes h fault e none = is_good bytes h (ap fault_of (sym none) ∙ e)

inside : (bytes : List ℕ) (h : Handle) → IsGood bytes h → h.size ≤ length bytes
inside bytes h good = let w = good.whole in omega arith

pub returns-in_err-fault : goal.returns-in_err-fault
returns-in_err-fault c = no_memory c.from_residual.result _ c.from_residual.ensures.1

pub returns-in_err-from_slice : goal.returns-in_err-from_slice
returns-in_err-from_slice c = no_memory c.from_residual-in_err-from_slice.result _ c.from_residual-in_err-from_slice.ensures.1

pub returns-in-Some : goal.returns-in-Some
returns-in-Some c = read_fault c.args.bytes.now c.args.handle (c.in-Some.fault.rule, c.in-Some.fault.place) (rw c.in-Some.is at c.in_ok-fault.ensures)

pub slice_bounds-block-end : goal.slice_bounds-block-end
slice_bounds-block-end c = sym (length-take-le c.args.handle.size c.args.bytes.now (inside c.args.bytes.now c.args.handle (good_here _ _ _ c.in_ok-fault.ensures c.in_default.is)))

pub overflow_sub-at : goal.overflow_sub-at
overflow_sub-at c = (has_count c.args.handle.offset _ _ _ (good_here _ _ _ c.in_ok-fault.ensures c.in_default.is).good refl refl).0

pub number_at-count-requires : goal.number_at-count-requires
number_at-count-requires c =
    let long = (has_count c.args.handle.offset _ _ _ (good_here _ _ _ c.in_ok-fault.ensures c.in_default.is).good refl refl).0 in
    omega arith

pub overflow_sub-result : goal.overflow_sub-result
overflow_sub-result c = (has_count c.args.handle.offset _ c.number_at-count.result _ (good_here _ _ _ c.in_ok-fault.ensures c.in_default.is).good refl c.number_at-count.ensures).2

pub invariant_of-result : goal.invariant_of-result
invariant_of-result c =
    let block = take c.args.handle.size c.args.bytes.now in
    let is = good_here _ _ _ c.in_ok-fault.ensures c.in_default.is in
    let has = has_count c.args.handle.offset _ c.number_at-count.result block is.good refl c.number_at-count.ensures in
    let good = good_limit c.args.handle.offset _ c.number_at-count.result block is.good refl c.number_at-count.ensures in
    let same = c.in_ok-from_slice.ensures.items in
    let n : length c.in_ok-from_slice.field-0.items ≡ length block = ap length same in
    let size : length block ≡ c.args.handle.size = length-take-le c.args.handle.size c.args.bytes.now (inside c.args.bytes.now c.args.handle is) in
    let P : List ℕ → Type 0 = λ b. (contents c.args.handle.offset b (length block - 4 - 4 * c.number_at-count.result) c.number_at-count.result).fault ≡ None in
    (has.1, omega (arith, has.0, has.2), omega (arith, is.fits), subst P (sym same) good.1)

pub returns : goal.returns
returns c =
    let block = take c.args.handle.size c.args.bytes.now in
    let limit = length block - 4 - 4 * c.number_at-count.result in
    let is = good_here _ _ _ c.in_ok-fault.ensures c.in_default.is in
    let good = good_limit c.args.handle.offset _ c.number_at-count.result block is.good refl c.number_at-count.ensures in
    is.read
    ∙ ap (λ (b : Contents). Ok (map (entry_of c.args.handle.offset) b.cells)) good.0
    ∙ ap (λ (b : List ℕ). Ok (map (entry_of c.args.handle.offset) (cells_in (take limit b)).cells)) (sym c.in_ok-from_slice.ensures.items)
