use Rattle.std.proofs.Common.{◌∙◌, ap, sym, drop, Some, ◌+◌}
use Rattle.bl_table.specs.declared.fault.TableRule.TheVariants.{Restart}
use Rattle.bl_table.specs.Blocks.{number_at, numbers_in}
use Rattle.bl_table.proofs.ScanLemmas.{first_wrong, none_wrong, next_wrong}
use Rattle.bl_table.proofs.check.contents_fault.Goals as goal
use Rattle.bl_table.proofs.check.contents_fault.Goals.{then-number_at-ne0, else-number_at-ne0+then-passed-count}

pub returns-else-passed-count : goal.returns-else-passed-count
returns-else-passed-count c =
    let scans = rw c.in-Passed.is at c.in_ok-fault.ensures in
    sym (scans.1 ∙ none_wrong c.args.offset c.args.limit c.args.count (number_at c.args.bytes.now c.args.limit) c.in-Passed.passed (drop c.args.limit c.args.bytes.now) (sym c.number_at.ensures ∙ c.if-number_at-ne0.false) c.if-passed-count.false)

pub returns : goal.returns
returns c =
    let scans = rw c.in-Passed.is at c.in_ok-fault.ensures in
    let left = drop c.in-Passed.passed (numbers_in c.args.count (drop c.args.limit c.args.bytes.now)) in
    sym (scans.1 ∙ (elim c.if-number_at-ne0.branch [
      | then-number_at-ne0 w ↦
          first_wrong c.args.offset c.args.limit c.args.count (number_at c.args.bytes.now c.args.limit) left (λ e. w.if-number_at-ne0.true (c.number_at.ensures ∙ e))
          ∙ ap (λ p. Some (Restart, c.args.offset + p)) (sym w.at-is)
      | else-number_at-ne0+then-passed-count w ↦
          next_wrong c.args.offset c.args.limit c.args.count (number_at c.args.bytes.now c.args.limit) c.in-Passed.passed (drop c.args.limit c.args.bytes.now) (sym c.number_at.ensures ∙ w.if-number_at-ne0.false) w.if-passed-count.true
          ∙ ap (λ p. Some (Restart, c.args.offset + p)) (sym w.at-is)
    ]))
