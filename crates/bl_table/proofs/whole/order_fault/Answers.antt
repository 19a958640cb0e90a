use Rattle.std.proofs.Common.{◌≡◌, ◌∙◌, ap, None, Some, take, drop}
use Rattle.std.specs.Prelude.{not}
use Rattle.bl_table.specs.declared.fault.TableRule.TheVariants.{Order}
use Rattle.bl_table.specs.Faults.{◌and◌, expect}
use Rattle.bl_table.specs.Whole.{last_entry, order_fault, ascend, descend}
use Rattle.bl_table.specs.Steps.{fault_of}
use Rattle.bl_table.proofs.WholeLemmas.{head_is, last_is, orders_are, behind_one, behind_none}
use Rattle.bl_table.proofs.whole.order_fault.Goals as goal
use Rattle.bl_table.proofs.whole.order_fault.Goals.{in-Some, in-None}

pub returns : goal.returns
returns c =
    let old = take c.args.from c.args.entries.now in
    let new = drop c.args.from c.args.entries.now in
    let first = rw c.split_at.ensures.back at c.in-Some-Some.ensures.value in
    let last = rw c.split_at.ensures.back at c.in-Some-Some.ensures'.value in
    let between : fault_of c.match-last-2.of_first ≡ order_fault (last_entry None old) (Some c.in-Some-Some.first.now) = elim c.match-last-2.branch [
      | in-Some w ↦ behind_one old c.in-Some-Some.first.now w.in-Some.entry.now _ _ _ _ ((rw c.split_at.ensures.front at w.in-Some.ensures.value) ∙ last_is old) w.as_slice.ensures c.as_slice-key.ensures w.ascend-in-Some.ensures
          (ap fault_of w.of_first-is ∙ w.unless_ordered-of_first.ensures)
      | in-None w ↦ behind_none old c.in-Some-Some.first.now _ ((rw c.split_at.ensures.front at w.in-None.ensures.value) ∙ last_is old) (ap fault_of w.of_first-is)
    ] in
    c.first_of-2.ensures ∙ ap (λ o. fault_of c.unless_ordered-of_index.result and o) c.first_of.ensures
    ∙ orders_are c.args.before.place c.args.before.key.now c.args.own.place c.args.own.key.now old new c.in-Some-Some.first.now c.in-Some-Some.last.now _ _ _ (first ∙ head_is new) (last ∙ last_is new)
    (c.unless_ordered-of_index.ensures ∙ ap (λ t. expect t Order c.args.before.place) (c.ascend.ensures ∙ ap (ascend c.args.before.key.now) c.as_slice-key.ensures))
    between
    (c.unless_ordered-of_own.ensures ∙ ap (λ t. expect (not t) Order c.args.own.place) (c.descend.ensures ∙ ap (λ k. descend k c.args.own.key.now) c.as_slice-2.ensures))
