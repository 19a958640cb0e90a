use Rattle.std.proofs.Common.{◌≡◌, ◌∙◌, ap, sym, subst, refl, arith, ◌+◌, ◌%◌, ◌^◌, ◌++◌, length, ℕ, List}
use Rattle.bl_table.specs.contracts.builder.TableBuilder.{the_view}
use Rattle.bl_table.specs.Spelling.{closing}
use Rattle.bl_table.specs.Building.{Building, HasAdded, block_of}
use Rattle.bl_table.proofs.BuildLemmas.{ends_empty, ends_block}
use Rattle.bl_table.proofs.builder.TableBuilder.finish.Goals as goal

pub returns-then-is_empty-clause-table : goal.returns-then-is_empty-clause-table
returns-then-is_empty-clause-table c = λ items given added.
    let P : Building → Type 0 = λ b. HasAdded items given b in
    ends_empty items given c.from_vec.result (the_view c.self.inside) (subst P (sym c.self.view_is) added) (c.if-is_empty.ensures.0 refl)
    (c.from_vec.ensures ∙ c.in_ok-put_closing.ensures ∙ ap (λ (x : List ℕ). x ++ closing c.self.inside.offset (block_of c.self.inside.index)) c.new-bytes.ensures.items)

pub returns-clause-table : goal.returns-clause-table
returns-clause-table c = λ items given added.
    let P : Building → Type 0 = λ b. HasAdded items given b in
    let n : c.len.result ≡ length c.in_ok-bytes.bytes.items = omega (arith, c.len.ensures, c.in_ok-bytes.bytes.ok) in
    ends_block items given c.from_vec-2.result c.in_ok-bytes.bytes.items c.last.result.now (the_view c.self.inside) c.close_block.new.index _ (subst P (sym c.self.view_is) added)
    (λ none. let t = c.if-is_empty.ensures.1 none in cc) c.in_ok-bytes.ensures.bytes c.last.ensures.key c.in_ok-bytes.ensures.index.0 (ap (λ k. (c.self.inside.offset + k) % 2 ^ 64) n) (c.from_vec-2.ensures ∙ c.in_ok-closed.ensures)
