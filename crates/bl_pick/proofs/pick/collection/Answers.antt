use Rattle.std.proofs.Common.{◌∙◌, ap}
use Rattle.std.proofs.lemmas.Result.{IfOk-weaker}
use Rattle.bl_edit.specs.Options.{Values}
use Rattle.bl_pick.specs.Picking.{cutoff}
use Rattle.bl_pick.proofs.PlanLemmas.{collects}
use Rattle.bl_pick.proofs.pick.collection.Goals as goal

pub returns-then-forced : goal.returns-then-forced
returns-then-forced c =
    IfOk-weaker c.rewrite.result _ _
    (λ due h. h ∙ collects c.args.version.now c.args.options.now c.args.snapshots.now c.is_forced-forced.result _ _ _ _ _ c.if-forced.true c.is_forced-forced.ensures (c.cutoff-cutoff.ensures ∙ ap (λ (o : Values). cutoff c.args.version.now.blobs o.age_cutoff) c.options.view_is) c.blobs.ensures c.first_number-file.ensures c.all_tables.ensures.value c.first_linked-linked.ensures)
    c.rewrite.ensures
