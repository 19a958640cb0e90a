use Rattle.std.proofs.Common.{◌≡◌, ◌∙◌, [], ◌∷◌, ◌++◌, sym, ap, subst}
use Rattle.bl_memtab.specs.Rows.{AreRows, Row}
use Rattle.bl_memtab.proofs.RowLemmas.{no_rows, one_row}
use Rattle.bl_memtab.proofs.rows.put_first.Goals as goal

pub returns-in_err-push-clause-rows : goal.returns-in_err-push-clause-rows
returns-in_err-push-clause-rows c = subst AreRows (sym c.requires) no_rows

pub returns-in_err-push-2-clause-rows : goal.returns-in_err-push-2-clause-rows
returns-in_err-push-2-clause-rows c = subst AreRows (sym (c.in_err-push-2.ensures.items ∙ c.requires)) no_rows

pub returns-clause-rows : goal.returns-clause-rows
returns-clause-rows c =
    let row : Row = c.push.new.self in
    let one : row.items ≡ c.args.entry ∷ [] = c.in_ok-push.ensures.items ∙ ap (λ xs. xs ++ c.args.entry ∷ []) c.new-row.ensures.items in
    let rows : c.push-2.new.self.items ≡ row ∷ [] = c.in_ok-push-2.ensures.items ∙ ap (λ xs. xs ++ row ∷ []) c.requires in
    subst AreRows (sym rows) (one_row row c.args.entry one)
