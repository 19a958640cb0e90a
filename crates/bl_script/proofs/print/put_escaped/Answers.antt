use Rattle.std.proofs.Common.{◌≡◌, true, ◌∙◌, ap, ◌++◌, refl, string_bytes}
use Rattle.percent_encoding.specs.AsciiSet.{should_percent_encode}
use Rattle.bl_script.specs.declared.print.TheConstants.{ESCAPED}
use Rattle.bl_script.proofs.PrintLemmas.{agrees, same, escaped_is}
use Rattle.bl_script.proofs.print.put_escaped.Goals as goal

all_agree : agrees ESCAPED 128 ≡ true
unfolding agrees same should_percent_encode
all_agree = refl

pub returns : goal.returns
returns c = c.in_ok-append_to.ensures.ok ∙ ap (λ t. string_bytes c.args.out.now ++ t) (c.percent_encode.ensures.text ∙ escaped_is ESCAPED c.args.bytes.now all_agree)
