use Rattle.std.proofs.Common.{◌≡◌, ◌+◌, ◌∷◌, ◌++◌, ◌∙◌, [], length, take, arith, ap, sym, subst, List}
use Rattle.bl_entry.specs.Written.{entry, entries_from}
use Rattle.bl_entry.specs.declared.batch.Operation.{Operation}
use Rattle.bl_code.proofs.Basics.{on_any_err}
use Rattle.bl_entry.specs.declared.key.Entry.{Entry}
use Rattle.bl_memtab.specs.Filled.{Holds}
use Rattle.bl_open.proofs.ReplayLemmas.{held_on, is_free, none_yet}
use Rattle.bl_store.specs.Calls.{HasTaken}
use Rattle.bl_store.proofs.InsertLemmas.{has_taken, taken, taken_length}
use Rattle.bl_store.proofs.write.insert_batch.Goals as goal

pub loop-operation-init : goal.loop-operation-init
loop-operation-init c = (omega arith, λ written h. none_yet written c.args.last c.args.memory.now h)

pub insert-requires : goal.insert-requires
insert-requires c =
    let i = c.loop-operation.invariant in
    let items = c.operations-operation-items.result.now in
    let index = c.loop-operation.operation-index in
    let less = c.loop-operation-test.true in
    let long : length (take index items) ≡ index = taken_length items index (omega (arith, less)) in
    let at : c.loop-operation.seq ≡ c.args.last + length (take index items) = (let at_index = i.0 in omega (arith, at_index, long)) in
    let is : c.entry_of.result ≡ entry c.operation-item.result.key (c.loop-operation.seq + 1) c.operation-item.result.put = c.entry_of.ensures ∙ ap (λ (o : Operation). entry o.key (c.loop-operation.seq + 1) o.put) c.in_ok-copy.ensures.copied in
    is_free c.batches_are_held.ensures.one c.args.last c.loop-operation.seq (take index items) c.operation-item.result c.entry_of.result c.loop-operation.memory at is _ (i.1 c.requires.holds.0 c.requires.holds.1)

pub loop-operation-preserved : goal.loop-operation-preserved
loop-operation-preserved c =
    let i = c.loop-operation.invariant in
    let items = c.operations-operation-items.result.now in
    let index = c.loop-operation.operation-index in
    let less = c.loop-operation-test.true in
    let o : Operation = c.operation-item.result in
    let long : length (take index items) ≡ index = taken_length items index (omega (arith, less)) in
    let at : c.loop-operation.seq ≡ c.args.last + length (take index items) = (let at_index = i.0 in omega (arith, at_index, long)) in
    let is : c.entry_of.result ≡ entry o.key (c.loop-operation.seq + 1) o.put = c.entry_of.ensures ∙ ap (λ (x : Operation). entry x.key (c.loop-operation.seq + 1) x.put) c.in_ok-copy.ensures.copied in
    let more : take (index + 1) items ≡ take index items ++ o ∷ [] = taken items index o (omega (arith, less)) c.operation-item.is in
    let at_index = i.0 in (
      omega (arith, at_index),
      λ written h. subst (λ (os : List Operation). Holds c.insert.new.self (written ++ entries_from (c.args.last + 1) os) (c.args.last + length os)) (sym more)
          (held_on c.batches_are_held.ensures.one c.args.last c.loop-operation.seq (take index items) o c.entry_of.result c.loop-operation.memory at is written c.insert.new.self c.in_ok-insert.ensures.ok (i.1 written h)),
    )

-- where memory runs out, the first operations are in the memory
pub returns-in_err-copy-clause-partly : goal.returns-in_err-copy-clause-partly
returns-in_err-copy-clause-partly c =
    let i = c.loop-operation in
    on_any_err c.from_residual.result (HasTaken c.args.batch.now c.args.last c.args.memory.now i.memory)
    (has_taken c.args.batch.now c.operations-operation-items.result.now i.operation-index c.args.last c.args.memory.now i.memory c.operations-operation-items.ensures.value i.invariant.1)

pub returns-in_err-insert-clause-partly : goal.returns-in_err-insert-clause-partly
returns-in_err-insert-clause-partly c =
    let i = c.loop-operation in
    on_any_err c.from_residual-in_err-insert.result (HasTaken c.args.batch.now c.args.last c.args.memory.now c.insert.new.self)
    (subst (λ (es : List Entry). HasTaken c.args.batch.now c.args.last c.args.memory.now es) (sym c.in_err-insert.ensures.err)
    (has_taken c.args.batch.now c.operations-operation-items.result.now i.operation-index c.args.last c.args.memory.now i.memory c.operations-operation-items.ensures.value i.invariant.1))
