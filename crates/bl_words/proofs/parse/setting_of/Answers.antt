use Rattle.std.proofs.Common.{◌≡◌, ◌∷◌, ap, sym, ◌∙◌, arith}
use Rattle.bl_words.specs.Options.{word_of}
use Rattle.bl_words.proofs.ReadLemmas.{sets_none}
use Rattle.bl_words.proofs.parse.setting_of.Goals as goal

pub returns-in_err-value : goal.returns-in_err-value
returns-in_err-value c =
    let cases = c.in_ok-name.ensures.cases in
    let named = c.in_ok-option.ensures in
    let row = c.row_of-row.ensures in
    let word_is : c.args.word.now ≡ word_of c.in_ok-option.option = cases.1.1 ∙ ap (λ name. 45 ∷ 45 ∷ name) (sym cases.2 ∙ named.1) in
    rw c.from_residual-in_err-value.ensures (sets_none c.args.word.now c.args.text.now c.in_ok-option.option named.0 word_is
    (λ value spells in_range. c.in_err-value.ensures value spells (omega (arith, row.least, in_range.0), omega (arith, row.greatest, in_range.1))))
