use Rattle.std.proofs.Common.{◌≡◌, ap, inr}
use Rattle.std.specs.Option.{option_copied}
use Rattle.std.proofs.lemmas.Result.{err_from_is_err_and}
use Rattle.bl_site.specs.Disk.{Folder, folder_of}
use Rattle.bl_read.specs.Giving.{View, memories_of}
use Rattle.bl_read.proofs.ScanLemmas.{scan_after, told_ok}
use Rattle.bl_read.proofs.ToldLemmas.{bad_some}
use Rattle.bl_read.proofs.told.told_next.Goals as goal

pub returns-in_err-table-clause-scan : goal.returns-in_err-table-clause-scan
returns-in_err-table-clause-scan g c = λ shown version scan.
    scan_after (folder_of (g.S.Site.disk c.args.site.now)) version c.args.merged.now c.first_in_tables.new.merged scan (c.in_err-table.ensures.over shown)

pub returns-in_err-table-clause-corrupt : goal.returns-in_err-table-clause-corrupt
returns-in_err-table-clause-corrupt g c = λ shown version scan name place is.
    absurd (c.in_err-table.ensures.corrupt shown scan.lists scan.over name place (let p = err_from_is_err_and c.from_residual-in_err-table.result c.from_residual-in_err-table.ensures.1 in cc (p.1, p.2, is)))

pub returns-clause-told : goal.returns-clause-told
returns-clause-told g c = λ shown version scan m gives.
    let site = g.S.Site in
    let f : Folder = folder_of (site.disk c.args.site.now) in
    let now : Folder = folder_of (site.disk c.first_in_tables.new.site) in
    let same : now ≡ f = ap folder_of (c.in_ok-table.ensures.quiet.stays shown).same in
    let view : View = record { version = version; memories = memories_of (option_copied c.args.memories.waiting) c.args.memories.in_use.now } in
    told_ok
    (record {
      grammar = c.tables_are_read_block_by_block.ensures;
      runs = c.runs_are_tables.ensures.run;
      named = c.named_are_read.ensures;
      all = c.merged_lists_are_in_order.ensures.all;
      order = c.merged_lists_are_in_order.ensures.order;
      ties = c.merged_lists_are_in_order.ensures.ties;
      tells = c.latest_tells_the_value.ensures;
      any = c.order_does_not_matter.ensures.values;
    })
    (record { later = c.later_are_told_first.ensures; order = c.latest_is_the_value.ensures.order; value = c.latest_is_the_value.ensures.value })
    f view c.args.seq m gives scan.lists scan.read c.args.bound.now now same (option_copied c.first_in_memories-memory.result) c.in_ok-table.table
    c.first_in_memories-memory.ensures (c.in_ok-table.ensures.told shown scan.lists scan.over) c.told_by_first.result (c.told_by_first.ensures.told shown)

pub returns-clause-scan : goal.returns-clause-scan
returns-clause-scan g c = λ shown version scan.
    scan_after (folder_of (g.S.Site.disk c.args.site.now)) version c.args.merged.now c.first_in_tables.new.merged scan (c.in_ok-table.ensures.over shown)

pub returns-clause-corrupt : goal.returns-clause-corrupt
returns-clause-corrupt g c = λ shown version scan name place is.
    let site = g.S.Site in
    let f : Folder = folder_of (site.disk c.args.site.now) in
    let now : Folder = folder_of (site.disk c.first_in_tables.new.site) in
    let same : now ≡ f = ap folder_of (c.in_ok-table.ensures.quiet.stays shown).same in
    inr (bad_some c.merged_lists_are_in_order.ensures.all f now same version.tables c.args.bound.now c.args.seq scan.lists c.in_ok-table.table name scan.read
    (c.in_ok-table.ensures.told shown scan.lists scan.over) (c.told_by_first.ensures.corrupt shown name place is))
