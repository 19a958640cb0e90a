use Rattle.std.proofs.Common.{◌≡◌, ◌≤◌, ◌∙◌, Bool, List, None, length, sym, ap, subst, ltb-false, ltb-true, Some}
use Rattle.std.specs.Prelude.{slice_get}
use Rattle.std.specs.List.{prefix_len}
use Rattle.std.specs.Option.{option_copied}
use Rattle.bl_entry.specs.Entries.{IsAscending}
use Rattle.bl_entry.specs.declared.key.Entry.{Entry}
use Rattle.bl_memtab.specs.Rows.{Row, entries_in, is_before, row_at}
use Rattle.bl_memtab.proofs.Orders.{before_cut}
use Rattle.bl_memtab.proofs.RowLemmas.{find_in_rows, first_in, get_end, get_here, got, row_ascends, row_at_is, rows_before}
use Rattle.bl_memtab.proofs.rows.first_from.Goals as goal

pub returns-in_err-row : goal.returns-in_err-row
returns-in_err-row c =
    let p : Entry → Bool = is_before c.args.user.now c.args.number c.args.strict in
    let rows : List Row = c.args.rows.now in
    let cut = before_cut c.args.user.now c.args.number c.args.strict (entries_in rows) c.requires.ascending in
    let behind : length rows ≤ c.row_of.result = ltb-false c.row_of.result (length rows) (sym c.in_err-row.ensures.lookup.0) in
    let none : slice_get rows (rows_before p rows) ≡ None = ap (slice_get rows) (sym c.row_of.ensures) ∙ get_end rows c.row_of.result behind in
    ap option_copied c.from_residual.ensures ∙ sym (find_in_rows p rows cut ∙ ap (first_in p) none)

pub place_in-requires : goal.place_in-requires
place_in-requires c =
    let rows : List Row = c.args.rows.now in
    let row : Row = c.in_ok-row.row.now in
    let found = c.in_ok-row.ensures.lookup in
    let is : row.items ≡ row_at rows c.row_of.result = ap (λ r. r.items) found.1 ∙ row_at_is rows c.row_of.result row (ltb-true c.row_of.result (length rows) (sym found.0)) in
    subst IsAscending (sym (c.deref-2.ensures.value ∙ is)) (row_ascends rows c.row_of.result c.requires.ascending)

pub returns : goal.returns
returns c =
    let p : Entry → Bool = is_before c.args.user.now c.args.number c.args.strict in
    let rows : List Row = c.args.rows.now in
    let row : Row = c.in_ok-row.row.now in
    let found = c.in_ok-row.ensures.lookup in
    let cut = before_cut c.args.user.now c.args.number c.args.strict (entries_in rows) c.requires.ascending in
    let here : slice_get rows (rows_before p rows) ≡ Some row =
    ap (slice_get rows) (sym c.row_of.ensures) ∙ get_here rows c.row_of.result row (ltb-true c.row_of.result (length rows) (sym found.0)) found.1 in
    got c.deref.result.now c.place_in.result c.get-2.result c.get-2.ensures.lookup.3
    ∙ (λ i. slice_get (c.deref.ensures.value i) ((c.place_in.ensures ∙ ap (prefix_len p) c.deref-2.ensures.value) i))
    ∙ sym (find_in_rows p rows cut ∙ ap (first_in p) here)
