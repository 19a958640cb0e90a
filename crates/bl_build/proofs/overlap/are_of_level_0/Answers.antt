use Rattle.std.proofs.Common.{◌≡◌, subst}
use Rattle.std.specs.List.{AllByRecursion}
use Rattle.bl_edit.specs.declared.edit.NewTable.{NewTable}
use Rattle.bl_build.proofs.Clashing.{level_0_passes}
use Rattle.bl_build.proofs.Placing.{all_more, take_whole}
use Rattle.bl_build.proofs.overlap.are_of_level_0.Goals as goal

pub loop-table-preserved : goal.loop-table-preserved
loop-table-preserved c =
    all_more (λ (t : NewTable). t.level ≡ 0) c.args.added.now c.loop-table.table-index c.table-item.result c.table-item.result c.loop-table-test.true c.table-item.is c.loop-table.invariant c.if-table-ne0.false

pub returns : goal.returns
returns c = λ left.
    let all : AllByRecursion (λ (t : NewTable). t.level ≡ 0) c.args.added.now =
    subst (AllByRecursion (λ (t : NewTable). t.level ≡ 0)) (take_whole c.args.added.now c.loop-table.table-index c.loop-table-test.false) c.loop-table.invariant in
    level_0_passes left c.args.added.now all
