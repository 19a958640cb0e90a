use Rattle.std.proofs.Common.{ap, get_or}
use Rattle.bl_edit.specs.declared.edit.NewTable.{NewTable}
use Rattle.bl_pick.proofs.PlanLemmas.{full_none, full_some}
use Rattle.bl_pick.proofs.pick.full_plan.Goals as goal

pub returns-then-is_empty : goal.returns-then-is_empty
returns-then-is_empty c = full_none c.args.version.now c.args.snapshots.now _ c.all_tables-tables.ensures.value c.if-is_empty.ensures

pub returns : goal.returns
returns c =
    let first : NewTable = get_or c.all_tables-tables.result.now 0 c.index-tables-0.result in
    full_some c.args.version.now c.args.snapshots.now c.all_tables-tables.result.now first c.deepest-deep.result c.in_ok-plan.plan c.all_tables-tables.ensures.value c.if-is_empty.ensures
    (ap (λ (t : NewTable). get_or c.all_tables-tables.result.now 0 t) c.index-tables-0.is) c.deepest-deep.ensures c.in_ok-plan.ensures
