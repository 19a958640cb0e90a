use Rattle.bl_names.specs.declared.name.FileName.TheVariants.{Table}
use Rattle.bl_names.specs.Names.{name_of}
use Rattle.bl_open.proofs.MomentLemmas.{all_before, none_found}
use Rattle.bl_open.proofs.flush.make_table.Goals as goal

pub returns-in_err-name-clause-before : goal.returns-in_err-name-clause-before
returns-in_err-name-clause-before g c = λ shown.
    let site = c.args.site.now in
    all_before g.S.Site (name_of (Table c.args.numbers.now)) site site (none_found g.S.Site site (g.met.S.Site.only_now shown site))
