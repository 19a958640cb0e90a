use Rattle.std.proofs.Common.{◌≡◌, ◌<◌, ◌^◌, get_or, refl, sym, ap, ◌∙◌}
use Rattle.std.specs.Prelude.{◌==◌, not, IsTrue}
use Rattle.std.specs.List.{list_any}
use Rattle.std.specs.Option.{option_map}
use Rattle.bl_edit.specs.declared.edit.DeletedTable.{DeletedTable}
use Rattle.bl_edit.specs.Bounds.{deletion_fits}
use Rattle.bl_build.specs.Listing.{table_rank}
use Rattle.bl_build.specs.Versions.{is_deleted}
use Rattle.bl_build.proofs.Placing.{all_get}
use Rattle.bl_build.proofs.Searching.{find_here, find_more, any_rank, deletion_number}
use Rattle.bl_build.proofs.checks.first_unknown.Goals as goal

pub returns-then-not-has_rank : goal.returns-then-not-has_rank
returns-then-not-has_rank c =
    let zero : DeletedTable = record { level = 0; number = 0 } in
    let item : DeletedTable = get_or c.args.deleted.now c.loop-table.table-index zero in
    let small : item.number < 2 ^ 64 = deletion_number item (all_get (λ (d : DeletedTable). IsTrue (deletion_fits d)) c.args.deleted.now c.loop-table.table-index zero c.requires.deleted c.loop-table-test.true) in
    let same : list_any (is_deleted item) c.args.tables.now ≡ c.has_rank.result =
    sym (any_rank item c.args.tables.now small c.requires.tables) ∙ ap (λ q. list_any (λ t. table_rank t == q) c.args.tables.now) (sym c.deleted_rank.ensures) ∙ sym c.has_rank.ensures in
    sym (ap (option_map (λ d. d.number))
    (find_here (λ d. not (list_any (is_deleted d) c.args.tables.now)) c.args.deleted.now c.loop-table.table-index item zero c.loop-table.invariant c.loop-table-test.true refl
    (ap not (same ∙ c.if-not-has_rank.true))))

pub loop-table-preserved : goal.loop-table-preserved
loop-table-preserved c =
    let zero : DeletedTable = record { level = 0; number = 0 } in
    let item : DeletedTable = get_or c.args.deleted.now c.loop-table.table-index zero in
    let small : item.number < 2 ^ 64 = deletion_number item (all_get (λ (d : DeletedTable). IsTrue (deletion_fits d)) c.args.deleted.now c.loop-table.table-index zero c.requires.deleted c.loop-table-test.true) in
    let same : list_any (is_deleted item) c.args.tables.now ≡ c.has_rank.result =
    sym (any_rank item c.args.tables.now small c.requires.tables) ∙ ap (λ q. list_any (λ t. table_rank t == q) c.args.tables.now) (sym c.deleted_rank.ensures) ∙ sym c.has_rank.ensures in
    find_more (λ d. not (list_any (is_deleted d) c.args.tables.now)) c.args.deleted.now c.loop-table.table-index item zero c.loop-table.invariant c.loop-table-test.true refl
    (ap not (same ∙ c.if-not-has_rank.false))
