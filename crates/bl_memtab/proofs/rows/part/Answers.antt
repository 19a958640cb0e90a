use Rattle.std.proofs.Common.{◌≡◌, ℕ, suc, ◌+◌, ◌<◌, ◌∙◌, List, length, get_or, sym, ap, subst, arith, take, drop}
use Rattle.std.specs.Prelude.{slice_set}
use Rattle.std.specs.List.{insert}
use Rattle.bl_memtab.specs.Rows.{Row, entries_in, row_at}
use Rattle.bl_memtab.proofs.PutLemmas.{StandFor, part_done}
use Rattle.bl_memtab.proofs.RowLemmas.{get_inserted, row_at_is, with_two}
use Rattle.bl_memtab.proofs.rows.part.Goals as goal

-- the row that is parted, behind which an empty one was put
found : (rows inserted : List Row) (at : ℕ) (new row : Row) → at < length rows → inserted ≡ insert rows (at + 1) new → row ≡ get_or inserted at row → row.items ≡ row_at rows at
found rows inserted at new row lt put is =
    let one : at + 1 ≡ suc at = omega arith in
    ap (λ r. r.items) (is ∙ ap (λ rs. get_or rs at row) (put ∙ ap (λ n. insert rows n new) one) ∙ get_inserted rows at new row lt) ∙ row_at_is rows at row lt

pub split_off-requires : goal.split_off-requires
split_off-requires c =
    let is = found c.args.rows.now.items c.insert.new.self.items c.args.at c.new.result c.index_mut.result.now c.requires.within c.in_ok-insert.ensures.items c.index_mut.ensures.value in
    omega (arith, ap length is, c.requires.less, c.index_mut.result.now.ok)

done : (c : goal.After-drop-index_mut) → StandFor (slice_set (slice_set c.insert.new.self.items c.args.at c.split_off.new.self) (c.args.at + 1) c.in-Ok.back) (entries_in c.args.rows.now.items)
done c =
    let rows : List Row = c.args.rows.now.items in
    let at : ℕ = c.args.at in
    let front : Row = c.split_off.new.self in
    let back : Row = c.in-Ok.back in
    let is : c.index_mut.result.now.items ≡ row_at rows at = found rows c.insert.new.self.items at c.new.result c.index_mut.result.now c.requires.within c.in_ok-insert.ensures.items c.index_mut.ensures.value in
    let one : at + 1 ≡ suc at = omega arith in
    let put : slice_set (slice_set c.insert.new.self.items at front) (at + 1) back ≡ with_two rows at c.new.result front back =
    ap (λ rs. slice_set (slice_set rs at front) (at + 1) back) c.in_ok-insert.ensures.items
    ∙ ap (λ n. slice_set (slice_set (insert rows n c.new.result) at front) n back) one in
    subst (λ rs. StandFor rs (entries_in rows)) (sym put)
    (part_done rows at c.args.cut c.new.result front back c.requires.rows c.requires.within c.requires.some c.requires.less
    (c.in-Ok.ensures.items ∙ ap (take c.args.cut) is) (c.in-Ok.ensures.tail ∙ ap (drop c.args.cut) is))

pub returns-in-Ok-clause-same : goal.returns-in-Ok-clause-same
returns-in-Ok-clause-same c = (done c).same

pub returns-in-Ok-clause-rows : goal.returns-in-Ok-clause-rows
returns-in-Ok-clause-rows c = (done c).kept
