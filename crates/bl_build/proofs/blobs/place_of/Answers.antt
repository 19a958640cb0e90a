use Rattle.std.proofs.Common.{◌≡◌, ◌≤◌, ltb, ltb-false, arith, rules, length, List, get_or, sym, ap, ◌∙◌}
use Rattle.std.proofs.lemmas.List.Sorted.{IsPartitionPoint-from_clause, IsPartitionedBy-ltb}
use Rattle.bl_build.specs.declared.meta.BlobMeta.{BlobMeta}
use Rattle.bl_build.specs.Listing.{blob_number}
use Rattle.bl_build.proofs.Placing.{ascends_at}
use Rattle.bl_build.proofs.Searching.{none_at}
use Rattle.bl_build.proofs.blobs.place_of.Goals as goal

pub returns-in_err-found-clause-none : goal.returns-in_err-found-clause-none
returns-in_err-found-clause-none c =
    let bs : List BlobMeta = c.args.blobs.now in
    let parted = IsPartitionedBy-ltb blob_number bs c.args.number (ascends_at blob_number bs c.requires) in
    let point = IsPartitionPoint-from_clause (λ (b : BlobMeta). ltb b.number c.args.number) _ _ c.partition_point-at.ensures.partitioned parted (λ a r q k. search rules) in
    let end : length bs ≤ c.partition_point-at.result = ltb-false c.partition_point-at.result (length bs) (sym c.in_err-found.ensures.lookup.0) in
    let zero : BlobMeta = record { number = 0; total = record { count = 0; bytes = 0 }; garbage = record { count = 0; bytes = 0 }; linked = 0 } in
    rw c.from_residual.ensures (none_at blob_number c.args.number c.partition_point-at.result bs zero c.requires point (λ lt. absurd (omega arith)))

pub returns-else-found-number-clause-none : goal.returns-else-found-number-clause-none
returns-else-found-number-clause-none c =
    let bs : List BlobMeta = c.args.blobs.now in
    let parted = IsPartitionedBy-ltb blob_number bs c.args.number (ascends_at blob_number bs c.requires) in
    let point = IsPartitionPoint-from_clause (λ (b : BlobMeta). ltb b.number c.args.number) _ _ c.partition_point-at.ensures.partitioned parted (λ a r q k. search rules) in
    let found : BlobMeta = c.in_ok-found.found.now in
    let here : found ≡ get_or bs c.partition_point-at.result found = c.in_ok-found.ensures.lookup.1 in
    none_at blob_number c.args.number c.partition_point-at.result bs found c.requires point (λ lt e. c.if-found-number.false (ap blob_number here ∙ e))
