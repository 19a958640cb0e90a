use Rattle.std.proofs.Common.{List, subst}
use Rattle.std.specs.Prelude.{map}
use Rattle.std.specs.List.{AllZip}
use Rattle.bl_site.specs.Disk.{Folder, folder_of}
use Rattle.bl_edit.specs.declared.edit.NewTable.{NewTable}
use Rattle.bl_cache.specs.Runs.{entries_in}
use Rattle.bl_read.specs.Reading.{IsReadAs}
use Rattle.bl_read.proofs.ScanLemmas.{opened_scan}
use Rattle.bl_read.proofs.pairs.Pairs.open.Goals as goal

pub returns-clause-scan : goal.returns-clause-scan
returns-clause-scan g c = λ shown.
    let f : Folder = folder_of (g.S.Site.disk c.args.site.now) in
    opened_scan f c.args.version.now c.in_ok-runs.runs.items c.over-merged.result c.over-merged.ensures
    (subst (λ (ts : List NewTable). AllZip (IsReadAs f) ts (map (λ r. entries_in r f) c.in_ok-runs.runs.items)) c.all_tables.ensures.value (c.in_ok-runs.ensures.read shown))
    (c.in_ok-runs.ensures.keeps shown)
