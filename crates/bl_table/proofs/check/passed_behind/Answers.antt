use Rattle.std.proofs.Common.{◌∙◌, sym}
use Rattle.bl_table.proofs.ScanLemmas.{one_passed, first_passed, sharing_passed, all_passed, not_passed}
use Rattle.bl_table.proofs.check.passed_behind.Goals as goal
use Rattle.bl_table.proofs.check.passed_behind.Goals.{else-place-gt0-via-then-place-gt0+then-shared-eq0+then-passed-count+else-from-place, else-place-gt0-via-then-place-gt0+then-shared-eq0+else-passed-count, else-place-gt0-via-then-place-gt0+else-shared-eq0, else-place-gt0-via-else-place-gt0}

pub returns-then-from-place-clause-left : goal.returns-then-from-place-clause-left
returns-then-from-place-clause-left c = λ cell cells place shared.
    one_passed c.args.count c.args.limit c.args.passed c.args.place c.args.shared c.number_at.result c.args.bytes.now cell cells c.if-passed-count.true c.if-place-gt0.true c.if-shared-eq0.true c.number_at.ensures (sym c.from.ensures ∙ c.if-from-place.true) place shared

pub returns-else-place-gt0-clause-left : goal.returns-else-place-gt0-clause-left
returns-else-place-gt0-clause-left c = λ cell cells place shared. elim c.else-place-gt0.branch [
  | else-place-gt0-via-then-place-gt0+then-shared-eq0+then-passed-count+else-from-place w ↦
      not_passed c.args.count c.args.limit c.args.passed c.args.place w.number_at.result c.args.bytes.now cell cells w.if-passed-count.true w.number_at.ensures (λ e. w.if-from-place.false (w.from.ensures ∙ e)) place
  | else-place-gt0-via-then-place-gt0+then-shared-eq0+else-passed-count w ↦ all_passed c.args.count c.args.limit c.args.passed c.args.bytes.now cell cells w.if-passed-count.false
  | else-place-gt0-via-then-place-gt0+else-shared-eq0 w ↦ sharing_passed cell cells _ c.args.shared shared w.if-shared-eq0.false
  | else-place-gt0-via-else-place-gt0 w ↦ first_passed cell cells _ c.args.place place w.if-place-gt0.false
]
