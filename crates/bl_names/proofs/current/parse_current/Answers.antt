use Rattle.std.proofs.Common.{[], ◌∷◌, ◌∙◌, sym}
use Rattle.std.specs.Prelude.{None, Some}
use Rattle.std.proofs.lemmas.Bool.Decides.{Decides-eqb}
use Rattle.std.proofs.lemmas.List.{append_cancel_right}
use Rattle.std.proofs.lemmas.Slice.Eq.{strip_suffix_is}
use Rattle.bl_names.specs.Names.{manifest_name}
use Rattle.bl_names.proofs.NameLemmas.{found_text}
use Rattle.bl_names.proofs.current.parse_current.Goals as goal

pub returns-in_err-name-clause-all : goal.returns-in_err-name-clause-all
returns-in_err-name-clause-all c = λ n h. absurd (strip_suffix_is Decides-eqb c.args.bytes.now (10 ∷ []) None c.in_err-name.ensures.cases (manifest_name n) h.1)

pub returns-clause-found : goal.returns-clause-found
returns-clause-found c =
    let split = strip_suffix_is Decides-eqb c.args.bytes.now (10 ∷ []) (Some c.in_ok-name.name) c.in_ok-name.ensures.cases in
    found_text c.manifest_number.result c.in_ok-name.name.now c.args.bytes.now split c.manifest_number.ensures.found

pub returns-clause-all : goal.returns-clause-all
returns-clause-all c = λ n h.
    let split = strip_suffix_is Decides-eqb c.args.bytes.now (10 ∷ []) (Some c.in_ok-name.name) c.in_ok-name.ensures.cases in
    c.manifest_number.ensures.all n h.0 (append_cancel_right c.in_ok-name.name.now (manifest_name n) (10 ∷ []) (sym split ∙ h.1))
