use Rattle.std.specs.Prelude.{None, Some}
use Rattle.std.proofs.lemmas.Bool.Decides.{Decides-eqb}
use Rattle.std.proofs.lemmas.Slice.Eq.{strip_suffix_is}
use Rattle.bl_names.specs.Names.{digits}
use Rattle.bl_names.proofs.NameLemmas.{found_before}
use Rattle.bl_names.proofs.number.number_before.Goals as goal

pub returns-in_err-digits-clause-all : goal.returns-in_err-digits-clause-all
returns-in_err-digits-clause-all c = λ n h e. absurd (strip_suffix_is Decides-eqb c.args.text.now c.args.ending.now None c.in_err-digits.ensures.cases (digits n) e)

pub returns-clause-found : goal.returns-clause-found
returns-clause-found c =
    let split = strip_suffix_is Decides-eqb c.args.text.now c.args.ending.now (Some c.in_ok-digits.digits) c.in_ok-digits.ensures.cases in
    found_before c.number_in.result c.in_ok-digits.digits.now c.args.ending.now c.args.text.now split c.number_in.ensures.found
