use Rattle.std.proofs.Common.{ap, ◌∙◌, sym}
use Rattle.std.specs.Prelude.{Some}
use Rattle.bl_names.specs.declared.name.FileName.TheVariants.{Manifest, Log, Table, Blob}
use Rattle.bl_names.proofs.NameLemmas.{names_one}
use Rattle.bl_names.proofs.name.parse_name.Goals as goal

pub returns-in-Some-clause-all : goal.returns-in-Some-clause-all
returns-in-Some-clause-all c = λ file h.
    let found = c.in-Some.ensures.found in
    ap Some (names_one c.args.name.now (Manifest c.in-Some.number) file (found.0, sym c.as_bytes-text.ensures.value ∙ found.1) h)

pub returns-in-Some-number_before-clause-all : goal.returns-in-Some-number_before-clause-all
returns-in-Some-number_before-clause-all c = λ file h.
    let found = c.in-Some-number_before.ensures.found in
    ap Some (names_one c.args.name.now (Log c.in-Some-number_before.number) file (found.0, sym c.as_bytes-text.ensures.value ∙ found.1) h)

pub returns-in-Some-number_before-2-clause-all : goal.returns-in-Some-number_before-2-clause-all
returns-in-Some-number_before-2-clause-all c = λ file h.
    let found = c.in-Some-number_before-2.ensures.found in
    ap Some (names_one c.args.name.now (Table c.in-Some-number_before-2.number) file (found.0, sym c.as_bytes-text.ensures.value ∙ found.1) h)

pub returns-in-Some-number_before-3-clause-all : goal.returns-in-Some-number_before-3-clause-all
returns-in-Some-number_before-3-clause-all c = λ file h.
    let found = c.in-Some-number_before-3.ensures.found in
    ap Some (names_one c.args.name.now (Blob c.in-Some-number_before-3.number) file (found.0, sym c.as_bytes-text.ensures.value ∙ found.1) h)
