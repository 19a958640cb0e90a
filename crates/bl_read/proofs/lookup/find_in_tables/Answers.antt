use Rattle.std.proofs.Common.{◌≡◌, List, ◌∙◌, ap, subst, inr}
use Rattle.std.specs.Prelude.{map}
use Rattle.std.specs.List.{AllZip}
use Rattle.std.proofs.lemmas.Result.{err_from_is_err_and}
use Rattle.bl_site.specs.Disk.{Folder, folder_of}
use Rattle.bl_edit.specs.declared.edit.NewTable.{NewTable}
use Rattle.bl_cache.specs.Runs.{entries_in}
use Rattle.bl_read.specs.Reading.{IsReadAs, tables_for}
use Rattle.bl_read.proofs.ToldLemmas.{bad_blob, given_at, kept, never_outside, told_none, told_of}
use Rattle.bl_read.proofs.lookup.find_in_tables.Goals as goal

pub returns-in_err-entry-clause-corrupt : goal.returns-in_err-entry-clause-corrupt
returns-in_err-entry-clause-corrupt g c = λ shown name place is.
    let site = g.S.Site in
    let f : Folder = folder_of (site.disk c.args.site.now) in
    let now : Folder = folder_of (site.disk c.open_tables.new.site) in
    let same : now ≡ f = ap folder_of (c.in_ok-runs.ensures.quiet.stays shown).same in
    let keeps = kept f now same c.over-merged.result c.in_ok-runs.runs.items c.over-merged.ensures (c.in_ok-runs.ensures.keeps shown) in
    absurd (never_outside f now name c.over-merged.result keeps
    (c.in_err-entry.ensures.corrupt shown keeps name place (let p = err_from_is_err_and c.from_residual-in_err-entry.result c.from_residual-in_err-entry.ensures.1 in cc (p.1, p.2, is))))

pub returns-in-Some-clause-told : goal.returns-in-Some-clause-told
returns-in-Some-clause-told g c = λ shown.
    let site = g.S.Site in
    let f : Folder = folder_of (site.disk c.args.site.now) in
    let now : Folder = folder_of (site.disk c.open_tables.new.site) in
    let same : now ≡ f = ap folder_of (c.in_ok-runs.ensures.quiet.stays shown).same in
    let after : folder_of (site.disk c.visible.new.site) ≡ f = ap folder_of (c.in_ok-entry.ensures.quiet.stays shown).same ∙ same in
    let read = subst (λ (ts : List NewTable). AllZip (IsReadAs f) (tables_for c.args.key.now ts) (map (λ r. entries_in r f) c.in_ok-runs.runs.items)) c.all_tables.ensures.value (c.in_ok-runs.ensures.read shown) in
    told_of f (folder_of (site.disk c.visible.new.site)) after c.args.version.now.tables c.args.key.now c.args.seq (map (λ r. entries_in r f) c.in_ok-runs.runs.items) c.in_ok-entry.field-0 c.in-Some.entry c.put_in_table.result read
    (given_at f now same c.over-merged.result c.in_ok-runs.runs.items c.over-merged.ensures (c.in_ok-runs.ensures.keeps shown) c.args.key.now c.args.seq c.in_ok-entry.field-0 (c.in_ok-entry.ensures.given shown))
    c.in-Some.is (c.put_in_table.ensures.put shown)

pub returns-in-Some-clause-corrupt : goal.returns-in-Some-clause-corrupt
returns-in-Some-clause-corrupt g c = λ shown name place is.
    let site = g.S.Site in
    let f : Folder = folder_of (site.disk c.args.site.now) in
    let now : Folder = folder_of (site.disk c.open_tables.new.site) in
    let same : now ≡ f = ap folder_of (c.in_ok-runs.ensures.quiet.stays shown).same in
    let after : folder_of (site.disk c.visible.new.site) ≡ f = ap folder_of (c.in_ok-entry.ensures.quiet.stays shown).same ∙ same in
    let read = subst (λ (ts : List NewTable). AllZip (IsReadAs f) (tables_for c.args.key.now ts) (map (λ r. entries_in r f) c.in_ok-runs.runs.items)) c.all_tables.ensures.value (c.in_ok-runs.ensures.read shown) in
    inr (bad_blob c.merged_lists_are_in_order.ensures.all f (folder_of (site.disk c.visible.new.site)) after c.args.version.now.tables c.args.key.now c.args.seq (map (λ r. entries_in r f) c.in_ok-runs.runs.items) c.in_ok-entry.field-0 c.in-Some.entry name read
    (given_at f now same c.over-merged.result c.in_ok-runs.runs.items c.over-merged.ensures (c.in_ok-runs.ensures.keeps shown) c.args.key.now c.args.seq c.in_ok-entry.field-0 (c.in_ok-entry.ensures.given shown))
    c.in-Some.is (c.put_in_table.ensures.corrupt shown name place is))

pub returns-clause-told : goal.returns-clause-told
returns-clause-told g c = λ shown.
    let site = g.S.Site in
    let f : Folder = folder_of (site.disk c.args.site.now) in
    let now : Folder = folder_of (site.disk c.open_tables.new.site) in
    let same : now ≡ f = ap folder_of (c.in_ok-runs.ensures.quiet.stays shown).same in
    let read = subst (λ (ts : List NewTable). AllZip (IsReadAs f) (tables_for c.args.key.now ts) (map (λ r. entries_in r f) c.in_ok-runs.runs.items)) c.all_tables.ensures.value (c.in_ok-runs.ensures.read shown) in
    told_none f c.args.version.now.tables c.args.key.now c.args.seq (map (λ r. entries_in r f) c.in_ok-runs.runs.items) c.in_ok-entry.field-0 read
    (given_at f now same c.over-merged.result c.in_ok-runs.runs.items c.over-merged.ensures (c.in_ok-runs.ensures.keeps shown) c.args.key.now c.args.seq c.in_ok-entry.field-0 (c.in_ok-entry.ensures.given shown))
    c.in-None.is
