use Rattle.std.proofs.Common.{◌≡◌, ◌<◌, ◌≤◌, ◌∙◌, Bool, List, length, sym, ap, subst, arith}
use Rattle.std.specs.Prelude.{slice_set}
use Rattle.std.specs.List.{prefix_len, insert}
use Rattle.std.proofs.lemmas.List.Sums.{prefix_len-le-length}
use Rattle.bl_code.proofs.Basics.{on_any_err}
use Rattle.bl_entry.specs.Entries.{IsAscending}
use Rattle.bl_entry.specs.declared.key.Entry.{Entry}
use Rattle.bl_memtab.specs.Rows.{Row, before, entries_in, row_at}
use Rattle.bl_memtab.specs.Tables.{with_entry}
use Rattle.bl_memtab.proofs.PutLemmas.{StandFor, left_done, put_done}
use Rattle.bl_memtab.proofs.RowLemmas.{row_ascends, row_at_is}
use Rattle.bl_memtab.proofs.rows.put_in.Goals as goal

pub place_of-place-requires : goal.place_of-place-requires
place_of-place-requires c =
    let rows : List Row = c.args.rows.now.items in
    let lt : c.args.at < length rows = omega (arith, c.requires.home, c.requires.some) in
    let is : c.index_mut-row.result.now.items ≡ row_at rows c.args.at = ap (λ r. r.items) c.index_mut-row.ensures.value ∙ row_at_is rows c.args.at c.index_mut-row.result.now lt in
    subst IsAscending (sym (c.deref.ensures.value ∙ is)) (row_ascends rows c.args.at c.requires.rows.ascending)

pub insert-requires : goal.insert-requires
insert-requires c =
    let p : Entry → Bool = before c.args.entry.key in
    let within : prefix_len p c.deref.result.now ≤ length c.deref.result.now = prefix_len-le-length p c.deref.result.now in
    omega (arith, within, c.place_of-place.ensures, ap length c.deref.ensures.value, c.index_mut-row.result.now.ok)

left : (c : goal.After-from_residual) → StandFor (slice_set c.args.rows.now.items c.args.at c.insert.new.self) (entries_in c.args.rows.now.items)
left c =
    let rows : List Row = c.args.rows.now.items in
    let lt : c.args.at < length rows = omega (arith, c.requires.home, c.requires.some) in
    let is : c.index_mut-row.result.now.items ≡ row_at rows c.args.at = ap (λ r. r.items) c.index_mut-row.ensures.value ∙ row_at_is rows c.args.at c.index_mut-row.result.now lt in
    left_done rows c.args.at c.insert.new.self c.requires.rows lt (c.in_err-insert.ensures.items ∙ is)

pub returns-in_err-insert-clause-err : goal.returns-in_err-insert-clause-err
returns-in_err-insert-clause-err c = on_any_err c.from_residual.result _ (left c).same

pub returns-in_err-insert-clause-rows : goal.returns-in_err-insert-clause-rows
returns-in_err-insert-clause-rows c = (left c).kept

done : (c : goal.In_ok-insert) → StandFor (slice_set c.args.rows.now.items c.args.at c.insert.new.self) (with_entry c.args.entry (entries_in c.args.rows.now.items))
done c =
    let rows : List Row = c.args.rows.now.items in
    let lt : c.args.at < length rows = omega (arith, c.requires.home, c.requires.some) in
    let is : c.index_mut-row.result.now.items ≡ row_at rows c.args.at = ap (λ r. r.items) c.index_mut-row.ensures.value ∙ row_at_is rows c.args.at c.index_mut-row.result.now lt in
    let place : c.place_of-place.result ≡ prefix_len (before c.args.entry.key) (row_at rows c.args.at) = c.place_of-place.ensures ∙ ap (prefix_len (before c.args.entry.key)) (c.deref.ensures.value ∙ is) in
    put_done c.keys_are_read.ensures.differ c.args.entry rows c.args.at c.insert.new.self c.requires.rows c.requires.free c.requires.some c.requires.home
    (c.in_ok-insert.ensures.items ∙ (λ i. insert (is i) (place i) c.args.entry))

pub returns-clause-ok : goal.returns-clause-ok
returns-clause-ok c = (done c).same

pub returns-clause-rows : goal.returns-clause-rows
returns-clause-rows c = (done c).kept
