use Rattle.std.proofs.Common.{◌≡◌, ◌+◌, ◌<◌, ◌≤◌, List, ap, length, get_or, subst, sym, take, ◌∙◌}
use Rattle.std.proofs.lemmas.List.{get_or_default}
use Rattle.bl_blob.specs.declared.blob.Totals.{Totals}
use Rattle.bl_edit.specs.declared.edit.NewTable.{NewTable}
use Rattle.bl_build.specs.declared.meta.BlobMeta.{BlobMeta}
use Rattle.bl_build.specs.Listing.{at_level}
use Rattle.bl_open.specs.declared.checks.Expected.{Expected}
use Rattle.bl_open.proofs.ExpectedLemmas.{AreOf, HaveBelow, HaveBlobs, HaveTables, all_below, are_all, below_stays, blob_of, blobs_more, level_more, no_blobs, no_tables, none_below, none_of, of_blob, of_table, table_of, tables_more, tables_stay}
use Rattle.bl_open.proofs.checks.expected_files.Goals as goal

pub loop-level-init : goal.loop-level-init
loop-level-init c = record {
  are = subst (λ (fs : List Expected). AreOf c.args.version.now fs) (sym c.new-files.ensures.items) (none_of c.args.version.now);
  below = none_below c.args.version.now c.new-files.result.items;
}

pub loop-table-init : goal.loop-table-init
loop-table-init c = record {
  are = c.loop-level.invariant.are;
  below = c.loop-level.invariant.below;
  here = no_tables c.loop-level.files.items;
}

pub loop-table-preserved : goal.loop-table-preserved
loop-table-preserved c =
    let version = c.args.version.now in
    let files = c.loop-table.files.items in
    let tables = c.tables-table-items.result.now in
    let i = c.loop-table.table-index in
    let t = c.table-item.result in
    let more = sym c.in_ok-push.ensures.items in
    let same = c.tables-table-items.ensures in
    let lt : i < length (at_level c.loop-level.level version.tables) = subst (λ (ts : List NewTable). i < length ts) same c.loop-table-test.true in
    let at : t ≡ get_or (at_level c.loop-level.level version.tables) i t = c.table-item.is ∙ ap (λ (ts : List NewTable). get_or ts i t) same in
    record {
      are = subst (λ (fs : List Expected). AreOf version fs) more (of_table version c.version_is_in_order.ensures files c.loop-level.level i t lt at c.loop-table.invariant.are);
      below = subst (λ (fs : List Expected). HaveBelow version c.loop-level.level fs) more (below_stays version c.loop-level.level files (table_of t) c.loop-table.invariant.below);
      here = subst (λ (fs : List Expected). HaveTables (take (i + 1) tables) fs) more (tables_more tables files i t c.loop-table-test.true c.table-item.is c.loop-table.invariant.here);
    }

pub loop-level-preserved : goal.loop-level-preserved
loop-level-preserved c =
    let version = c.args.version.now in
    let i = c.loop-table.table-index in
    let same = c.tables-table-items.ensures in
    record {
      are = c.loop-table.invariant.are;
      below = level_more version c.loop-level.level i c.loop-table.files.items (subst (λ (ts : List NewTable). length ts ≤ i) same c.loop-table-test.false) c.loop-table.invariant.below
          (subst (λ (ts : List NewTable). HaveTables (take i ts) c.loop-table.files.items) same c.loop-table.invariant.here);
    }

pub loop-blob-init : goal.loop-blob-init
loop-blob-init c = record {
  are = c.loop-level.invariant.are;
  tables = all_below c.args.version.now c.loop-level.level c.loop-level.files.items c.version_is_in_order.ensures c.loop-level-test.false c.loop-level.invariant.below;
  blobs = no_blobs c.loop-level.files.items;
}

pub loop-blob-preserved : goal.loop-blob-preserved
loop-blob-preserved c =
    let version = c.args.version.now in
    let files = c.loop-blob.files.items in
    let blobs = c.blobs-blob-items.result.now in
    let i = c.loop-blob.blob-index in
    let none : Totals = record { count = 0; bytes = 0 } in
    let d : BlobMeta = record { number = 0; total = none; garbage = none; linked = 0 } in
    let b : BlobMeta = get_or blobs i d in
    let at_blobs : b ≡ get_or blobs i b = get_or_default blobs i d b c.loop-blob-test.true in
    let more = sym c.in_ok-push-2.ensures.items in
    let same = c.blobs-blob-items.ensures in
    let lt : i < length version.blobs = subst (λ (bs : List BlobMeta). i < length bs) same c.loop-blob-test.true in
    let at : b ≡ get_or version.blobs i b = at_blobs ∙ ap (λ (bs : List BlobMeta). get_or bs i b) same in
    record {
      are = subst (λ (fs : List Expected). AreOf version fs) more (of_blob version c.version_is_in_order.ensures files i b lt at c.loop-blob.invariant.are);
      tables = subst (λ (fs : List Expected). HaveTables version.tables fs) more (tables_stay version.tables files (blob_of b) c.loop-blob.invariant.tables);
      blobs = subst (λ (fs : List Expected). HaveBlobs (take (i + 1) blobs) fs) more (blobs_more blobs files i b c.loop-blob-test.true at_blobs c.loop-blob.invariant.blobs);
    }

pub returns-clause-all : goal.returns-clause-all
returns-clause-all c =
    let version = c.args.version.now in
    let i = c.loop-blob.blob-index in
    let same = c.blobs-blob-items.ensures in
    are_all version c.loop-blob.files.items i (subst (λ (bs : List BlobMeta). length bs ≤ i) same c.loop-blob-test.false) c.loop-blob.invariant.are c.loop-blob.invariant.tables
    (subst (λ (bs : List BlobMeta). HaveBlobs (take i bs) c.loop-blob.files.items) same c.loop-blob.invariant.blobs)
