use Rattle.std.proofs.Common.{◌≡◌, ◌+◌, ◌∷◌, ◌++◌, [], length, arith}
use Rattle.std.proofs.lemmas.List.{length_push}
use Rattle.bl_open.proofs.ReplayLemmas.{held_on, is_free, none_yet}
use Rattle.bl_open.proofs.replay.insert_batch.Goals as goal

pub loop-operation-init : goal.loop-operation-init
loop-operation-init c = (omega arith, λ written h. none_yet written c.args.last c.args.memory.now h)

pub insert-requires : goal.insert-requires
insert-requires c =
    let i = c.loop-operation.invariant in
    is_free c.batches_are_held.ensures.one c.args.last c.loop-operation.seq c.loop-operation.yielded c.in-Some.operation c.entry_of.result c.loop-operation.memory i.0 c.entry_of.ensures _ (i.1 c.requires.holds.0 c.requires.holds.1)

pub loop-operation-preserved : goal.loop-operation-preserved
loop-operation-preserved c =
    let i = c.loop-operation.invariant in
    let long : length (c.loop-operation.yielded ++ c.in-Some.operation ∷ []) ≡ length c.loop-operation.yielded + 1 = length_push c.loop-operation.yielded c.in-Some.operation in (
      omega (arith, i.0, long),
      λ written h. held_on c.batches_are_held.ensures.one c.args.last c.loop-operation.seq c.loop-operation.yielded c.in-Some.operation c.entry_of.result c.loop-operation.memory i.0 c.entry_of.ensures written c.insert.new.self c.in_ok-insert.ensures.ok (i.1 written h),
    )
