use Rattle.std.proofs.Common.{arith}
use Rattle.std.proofs.lemmas.List.{length_push}
use Rattle.bl_wal.proofs.EntryLemmas.{put_one, no_entries}
use Rattle.bl_wal.proofs.replayed.put_entries.Goals as goal

pub loop-operation-init : goal.loop-operation-init
loop-operation-init c = (omega arith, no_entries c.args.entries.now.items c.args.first)

pub loop-operation-preserved : goal.loop-operation-preserved
loop-operation-preserved c = (
  omega (arith, c.loop-operation.invariant.0, length_push c.loop-operation.yielded c.in-Some.operation),
  put_one c.loop-operation.yielded c.args.first c.loop-operation.seq c.in-Some.operation c.args.entries.now.items
      c.loop-operation.entries.items _ c.entry_of.result c.loop-operation.invariant.1 c.loop-operation.invariant.0 c.entry_of.ensures c.in_ok-push.ensures.items,
)
