use Rattle.std.proofs.Common.{ap, ◌∙◌, arith}
use Rattle.std.proofs.lemmas.List.{take_all}
use Rattle.bl_entry.specs.Revisions.{after_put, after_operations}
use Rattle.bl_entry.specs.declared.batch.Operation.{Operation}
use Rattle.bl_logstore.proofs.OperationLemmas.{put_one}
use Rattle.bl_logstore.specs.Stored.{map_in}
use Rattle.bl_logstore.proofs.memory.put_operations.Goals as goal

pub loop-operation-preserved : goal.loop-operation-preserved
loop-operation-preserved c =
    let o : Operation = c.operation-item.result in
    c.in_ok-put_operation.ensures.put ∙ ap (after_put o.key o.put) c.loop-operation.invariant
    ∙ put_one c.operations-operation-items.result.now c.loop-operation.operation-index o (map_in c.args.map.now.entries) (omega (arith, c.loop-operation-test.true)) c.operation-item.is

pub returns-clause-put : goal.returns-clause-put
returns-clause-put c =
    let m = map_in c.args.map.now.entries in
    c.loop-operation.invariant ∙ ap (λ ops. after_operations ops m) (take_all c.loop-operation.operation-index c.operations-operation-items.result.now (omega (arith, c.loop-operation-test.false)) ∙ c.operations-operation-items.ensures.value)
