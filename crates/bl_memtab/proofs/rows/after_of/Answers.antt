use Rattle.std.proofs.Common.{◌∙◌, ap}
use Rattle.bl_memtab.specs.Rows.{entries_in}
use Rattle.bl_memtab.proofs.PlaceLemmas.{after_is}
use Rattle.bl_memtab.proofs.rows.after_of.Goals as goal

pub returns : goal.returns
returns c =
    c.first_from.ensures
    ∙ after_is c.args.from.now c.as_slice.result.now c.number_of.result c.args.strict (entries_in c.args.rows.now) (c.as_slice.ensures ∙ ap (λ k. k.user) c.from.view_is) c.number_of.ensures
