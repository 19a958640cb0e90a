use Rattle.std.proofs.Common.{◌≡◌, ◌∷◌, [], ◌++◌, ◌∙◌, ap, subst, sym, arith, map, length}
use Rattle.std.proofs.lemmas.Iterator.Adapters.{YieldsList-from_vec}
use Rattle.std.proofs.lemmas.Iterator.Consumers.{YieldsList-turn, YieldsList-end}
use Rattle.std.proofs.lemmas.List.{map-append, map-id, length-map}
use Rattle.bl_code.proofs.Basics.{all_get}
use Rattle.bl_script.specs.Limits.{IsOperation}
use Rattle.bl_shell.specs.Machine.{operation}
use Rattle.bl_shell.proofs.batch.batch_of.Goals as goal

pub add-requires-clause-within : goal.add-requires-clause-within
add-requires-clause-within c =
    let gives = c.into_iter-operation-iterator.ensures.into_iter_gives in
    let turn = YieldsList-turn (YieldsList-from_vec {s = c.into_iter-operation-iterator.result} c.args.operations.items gives.0 (omega (arith, gives.1, c.args.operations.ok)))
    c.loop-operation.yielded c.loop-operation.operation-iterator c.loop-operation.yielded_by c.next.result c.next.new.self c.in-Some.operation c.in-Some.is c.next.ensures.steps in
    subst IsOperation (sym turn.1) (all_get IsOperation c.args.operations.items (length c.loop-operation.yielded) c.in-Some.operation c.requires.within turn.0)

pub add-requires-clause-room : goal.add-requires-clause-room
add-requires-clause-room c =
    let gives = c.into_iter-operation-iterator.ensures.into_iter_gives in
    let turn = YieldsList-turn (YieldsList-from_vec {s = c.into_iter-operation-iterator.result} c.args.operations.items gives.0 (omega (arith, gives.1, c.args.operations.ok)))
    c.loop-operation.yielded c.loop-operation.operation-iterator c.loop-operation.yielded_by c.next.result c.next.new.self c.in-Some.operation c.in-Some.is c.next.ensures.steps in
    let size : length c.loop-operation.batch ≡ length c.loop-operation.yielded = ap length c.loop-operation.invariant ∙ length-map c.loop-operation.yielded operation in
    omega (arith, size, turn.0, c.requires.few)

pub loop-operation-preserved : goal.loop-operation-preserved
loop-operation-preserved c =
    c.in_ok-add.ensures.put ∙ ap (λ b. b ++ operation c.in-Some.operation ∷ []) c.loop-operation.invariant
    ∙ sym (map-append operation c.loop-operation.yielded (c.in-Some.operation ∷ []))

pub returns-clause-batch : goal.returns-clause-batch
returns-clause-batch c =
    let gives = c.into_iter-operation-iterator.ensures.into_iter_gives in
    let seen = YieldsList-end (YieldsList-from_vec {s = c.into_iter-operation-iterator.result} c.args.operations.items gives.0 (omega (arith, gives.1, c.args.operations.ok)))
    c.loop-operation.yielded c.loop-operation.operation-iterator c.loop-operation.yielded_by c.next.result c.next.new.self c.in-None.is c.next.ensures.steps in
    c.loop-operation.invariant ∙ ap (map operation) (sym (map-id c.loop-operation.yielded) ∙ seen.0)
