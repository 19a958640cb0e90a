use Rattle.std.proofs.Common.{◌≡◌, ◌≤◌, ◌+◌, ℕ, List, length, length-take, get_or, take, subst, sym, ap, ◌∙◌, arith}
use Rattle.std.specs.Prelude.{◌==◌}
use Rattle.std.proofs.lemmas.Grind.{common_steps}
use Rattle.std.proofs.lemmas.List.Sums.{count_by-le-length}
use Rattle.bl_edit.specs.declared.edit.NewTable.{NewTable}
use Rattle.bl_build.specs.declared.meta.BlobMeta.{BlobMeta}
use Rattle.bl_build.proofs.Files.{Counts, counts_more, counts_none, get_any}
use Rattle.bl_build.proofs.Placing.{take_whole}
use Rattle.bl_build.proofs.blobs.links_of.Goals as goal

abbrev none : BlobMeta
none = record { number = 0; total = record { count = 0; bytes = 0 }; garbage = record { count = 0; bytes = 0 }; linked = 0 }

pub loop-table-preserved-in_default : goal.loop-table-preserved-in_default
loop-table-preserved-in_default c = record {
  same = c.loop-table.invariant.same;
  counts = counts_none c.args.tables.now c.args.blobs.now c.loop-table.links.items c.loop-table.table-index c.table-item.result c.table-item.result c.loop-table-test.true c.table-item.is c.in_default.ensures.none c.loop-table.invariant.counts;
}

pub overflow_add-index_mut : goal.overflow_add-index_mut
overflow_add-index_mut c =
    let at : ℕ = c.in-Some.at in
    let links : ℕ = get_or c.loop-table.links.items at 0 in
    let front = take c.loop-table.table-index c.args.tables.now in
    let same : c.index_mut.result.now ≡ links = c.index_mut.ensures.value ∙ get_any c.loop-table.links.items at c.index_mut.result.now 0 (omega (arith, c.loop-table.invariant.same, c.in-Some.ensures.some.0)) in
    let few : links ≤ length front =
    subst (λ (n : ℕ). n ≤ length front) (sym (c.loop-table.invariant.counts at none c.in-Some.ensures.some.0)) (count_by-le-length (λ t. t.oldest_blob == (get_or c.args.blobs.now at none).number) front) in
    let short : length front ≤ c.loop-table.table-index = omega (arith, length-take c.loop-table.table-index c.args.tables.now) in
    omega (arith, same, few, short)

pub loop-table-preserved : goal.loop-table-preserved
loop-table-preserved c =
    let at : ℕ = c.in-Some.at in
    let value : c.index_mut.result.now ≡ get_or c.loop-table.links.items at 0 =
    c.index_mut.ensures.value ∙ get_any c.loop-table.links.items at c.index_mut.result.now 0 (omega (arith, c.loop-table.invariant.same, c.in-Some.ensures.some.0)) in
    record {
      same = grind (arith, common_steps, c.loop-table.invariant.same);
      counts = counts_more c.args.tables.now c.args.blobs.now c.loop-table.links.items c.loop-table.table-index at (c.index_mut.result.now + 1) c.table-item.result c.table-item.result c.loop-table-test.true c.table-item.is
          c.requires c.loop-table.invariant.same c.in-Some.ensures.some.0 c.in-Some.ensures.some.1 (ap (λ n. n + 1) value) c.loop-table.invariant.counts;
    }

pub returns-clause-counts : goal.returns-clause-counts
returns-clause-counts c = subst (λ (ts : List NewTable). Counts ts c.args.blobs.now c.loop-table.links.items) (take_whole c.args.tables.now c.loop-table.table-index c.loop-table-test.false) c.loop-table.invariant.counts
