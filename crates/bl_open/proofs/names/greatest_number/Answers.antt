use Rattle.std.proofs.Common.{List, subst, sym, ◌∙◌, ap, get_or}
use Rattle.std.specs.Prelude.{max}
use Rattle.std.proofs.lemmas.List.{take_more}
use Rattle.bl_names.specs.declared.name.FileName.{FileName}
use Rattle.bl_names.specs.declared.name.FileName.TheVariants.{Current}
use Rattle.bl_open.proofs.ListingLemmas.{GreatestOf, greatest_more, max_is}
use Rattle.bl_open.proofs.names.greatest_number.Goals as goal

pub loop-name-preserved : goal.loop-name-preserved
loop-name-preserved c =
    subst (λ (fs : List FileName). GreatestOf fs c.max-greatest.result) (sym (take_more c.args.files.now c.loop-name.name-index Current c.loop-name-test.true))
    (greatest_more _ (get_or c.args.files.now c.loop-name.name-index Current) c.loop-name.greatest c.max-greatest.result
    (c.max-greatest.ensures ∙ max_is c.loop-name.greatest c.number_of.result ∙ ap (λ n. max c.loop-name.greatest n) c.number_of.ensures) c.loop-name.invariant)
