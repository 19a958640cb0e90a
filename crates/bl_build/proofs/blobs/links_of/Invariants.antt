use Rattle.std.proofs.Common.{◌≡◌, ◌<◌, ℕ, length, get_or, take}
use Rattle.std.specs.Prelude.{◌==◌, count_by}
use Rattle.bl_build.specs.declared.meta.BlobMeta.{BlobMeta}
use Rattle.bl_build.proofs.blobs.links_of.Given as goal

abbrev pub invariant-loop-table : goal.invariant-loop-table
invariant-loop-table l = record {
  same : length l.links.items ≡ length l.blobs;
  counts : (k : ℕ) (d : BlobMeta) → k < length l.blobs → get_or l.links.items k 0 ≡ count_by (λ t. t.oldest_blob == (get_or l.blobs k d).number) (take l.table-index l.tables);
}
