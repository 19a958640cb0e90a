use Rattle.std.proofs.Common.{◌∷◌, [], ◌++◌, ap, ◌∙◌}
use Rattle.std.specs.Prelude.{codes}
use Rattle.std.specs.Fmt.{styled_decimal}
use Rattle.bl_names.proofs.NameLemmas.{padded_six}
use Rattle.bl_names.proofs.current.print_current.Goals as goal

pub returns : goal.returns
returns c =
    c.from_vec.ensures ∙ ap (λ v. v.items) c.into_bytes.ensures.value ∙ c.in_ok-text.ensures.ok
    ∙ ap (λ digits. codes "MANIFEST-" ++ (digits ++ 10 ∷ [])) (ap (λ spec. styled_decimal spec c.args.number) c.laid_out.ensures ∙ padded_six c.args.number)
