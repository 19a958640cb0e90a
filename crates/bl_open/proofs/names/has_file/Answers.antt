use Rattle.std.proofs.Common.{◌↔◌, Contains, IsTrue, rules}
use Rattle.bl_open.proofs.ListingLemmas.{is_listed}
use Rattle.bl_open.proofs.names.has_file.Goals as goal

pub returns-clause-there : goal.returns-clause-there
returns-clause-there c = λ folder listed number.
    let among : IsTrue c.contains.result ↔ Contains c.args.files.now c.args.wanted = search rules in
    is_listed folder c.args.files.now c.args.wanted c.contains.result listed number among
