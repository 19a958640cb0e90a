use Rattle.bl_cache.proofs.EntryLemmas.{names_a_file}
use Rattle.bl_cache.proofs.entries.is_value.Goals as goal

pub returns-then-index-ge1-clause-bounds : goal.returns-then-index-ge1-clause-bounds
returns-then-index-ge1-clause-bounds c = λ below.
    names_a_file c.args.kind c.args.value.now c.in-Ok.index c.in-BlobRef.is ((c.decode_index.ensures.accepts c.in-Ok.index).0 c.in-Ok.is) c.if-index-ge1.true below
