use Rattle.std.proofs.Common.{◌≡◌, ◌<◌, List, [], ◌∷◌, ◌++◌, ◌+◌, take, length, sym, ap, subst}
use Rattle.std.specs.Prelude.{IsTrue, map}
use Rattle.std.specs.List.{AllByRecursion, AllZip}
use Rattle.bl_site.specs.Disk.{Folder, folder_of}
use Rattle.bl_site.proofs.Quiet.{reads_on}
use Rattle.bl_edit.specs.Bounds.{table_fits}
use Rattle.bl_edit.specs.declared.edit.NewTable.{NewTable}
use Rattle.bl_cache.specs.Runs.{Keeps, TableView, entries_in}
use Rattle.bl_entry.proofs.ListLemmas.{all_append}
use Rattle.bl_read.specs.Reading.{IsReadAs}
use Rattle.bl_read.proofs.TableLemmas.{all_get, all_more, number_of, opened}
use Rattle.bl_read.proofs.tables.open_all.Goals as goal

pub open-requires : goal.open-requires
open-requires g c =
    number_of c.table-item.result (subst (λ (t : NewTable). IsTrue (table_fits t)) (sym c.table-item.is)
    (all_get (λ (t : NewTable). IsTrue (table_fits t)) c.args.tables.now c.loop-table.table-index c.table-item.result c.requires c.loop-table-test.true))

pub returns-in_err-run-clause-quiet : goal.returns-in_err-run-clause-quiet
returns-in_err-run-clause-quiet g c = reads_on g.S.Site c.args.site.now c.loop-table.site c.open.new.site c.loop-table.invariant.quiet c.in_err-run.ensures.quiet

pub loop-table-preserved : goal.loop-table-preserved
loop-table-preserved g c =
    let site = g.S.Site in
    let f : Folder = folder_of (site.disk c.args.site.now) in
    let lt : c.loop-table.table-index < length c.args.tables.now = c.loop-table-test.true in
    let items : c.put_behind.new.runs.items ≡ c.loop-table.runs.items ++ c.in_ok-run.run' ∷ [] = c.in_ok-put_behind.ensures.ok in
    record {
      read = λ shown.
          let same : folder_of (site.disk c.loop-table.site) ≡ f = ap folder_of (c.loop-table.invariant.quiet.stays shown).same in
          subst (λ (rs : List TableView). AllZip (IsReadAs f) (take (c.loop-table.table-index + 1) c.args.tables.now) (map (λ r. entries_in r f) rs)) (sym items)
          (all_more f c.args.tables.now c.loop-table.table-index c.table-item.result lt c.table-item.is c.loop-table.runs.items c.in_ok-run.run'
          (opened f c.table-item.result c.in_ok-run.run' c.in_ok-run.ensures.table (subst (Keeps c.in_ok-run.run') same (c.in_ok-run.ensures.keeps shown)))
          (c.loop-table.invariant.read shown));
      keeps = λ shown.
          let same : folder_of (site.disk c.loop-table.site) ≡ f = ap folder_of (c.loop-table.invariant.quiet.stays shown).same in
          subst (AllByRecursion (λ (r : TableView). Keeps r f)) (sym items)
          (all_append (λ (r : TableView). Keeps r f) c.loop-table.runs.items (c.in_ok-run.run' ∷ []) (c.loop-table.invariant.keeps shown) (subst (Keeps c.in_ok-run.run') same (c.in_ok-run.ensures.keeps shown), tt));
      quiet = reads_on site c.args.site.now c.loop-table.site c.open.new.site c.loop-table.invariant.quiet c.in_ok-run.ensures.quiet;
    }
