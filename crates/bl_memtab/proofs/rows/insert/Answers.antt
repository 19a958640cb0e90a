use Rattle.std.proofs.Common.{◌≡◌, ℕ, ◌<◌, ◌≤◌, ◌∙◌, List, length, sym, ap, subst, arith}
use Rattle.std.proofs.lemmas.Grind.{common_steps}
use Rattle.bl_entry.specs.Entries.{IsAscending}
use Rattle.bl_memtab.specs.Rows.{Row, row_at}
use Rattle.bl_memtab.proofs.RowLemmas.{row_ascends, row_at_is}
use Rattle.bl_memtab.proofs.rows.insert.Goals as goal

pub cut_of-cut-requires-clause-ascending : goal.cut_of-cut-requires-clause-ascending
cut_of-cut-requires-clause-ascending c =
    let rows : List Row = c.args.rows.now.items in
    let at : ℕ = c.home_of-at.result in
    let some : 1 ≤ length rows = grind (arith, common_steps) in
    let lt : at < length rows = omega (arith, c.home_of-at.ensures, ap length c.deref.ensures.value) in
    let is : c.index-2.result.now.items ≡ row_at rows at = ap (λ r. r.items) c.index-2.ensures ∙ row_at_is rows at c.index-2.result.now lt in
    subst IsAscending (sym (c.deref-2.ensures.value ∙ is)) (row_ascends rows at c.requires.rows.ascending)

pub part-requires-clause-less : goal.part-requires-clause-less
part-requires-clause-less c =
    let rows : List Row = c.args.rows.now.items in
    let at : ℕ = c.home_of-at.result in
    let some : 1 ≤ length rows = grind (arith, common_steps) in
    let lt : at < length rows = omega (arith, c.home_of-at.ensures, ap length c.deref.ensures.value) in
    let is : c.index-2.result.now.items ≡ row_at rows at = ap (λ r. r.items) c.index-2.ensures ∙ row_at_is rows at c.index-2.result.now lt in
    omega (arith, ap length (c.deref-2.ensures.value ∙ is), c.cut_of-cut.ensures.less)
