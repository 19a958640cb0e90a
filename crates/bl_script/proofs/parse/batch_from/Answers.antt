use Rattle.std.proofs.Common.{◌≡◌, ◌∙◌, ap, sym, [], length, true, false, Some, arith}
use Rattle.std.proofs.lemmas.Bool.{eq-eqb}
use Rattle.bl_script.specs.declared.command.Command.TheVariants.{Batch}
use Rattle.bl_script.specs.Lines.{words}
use Rattle.bl_script.specs.Parsing.{operations}
use Rattle.bl_script.proofs.OperationLemmas.{all_read, batch_is, begun}
use Rattle.bl_script.proofs.parse.batch_from.Goals as goal

pub returns-else-is_empty : goal.returns-else-is_empty
returns-else-is_empty c =
    let items = c.operations.items.items in
    let all : operations (words c.args.rest.now) ≡ Some items = all_read items (words c.operations.left.now) (operations (words c.args.rest.now)) c.operations.invariant.all c.in_default.ensures.words in
    let some : items ≡ [] → ⊥ = λ none. let zero : c.operations.items.len ≡ 0 = omega (arith, c.operations.items.ok, ap length none) in let is : c.is_empty.result ≡ true = c.is_empty.ensures ∙ eq-eqb c.operations.items.len 0 zero in let not : c.is_empty.result ≡ false = c.if-is_empty.false in cc (is, not) in
    ap (λ os. Some (Batch os)) c.from_vec.ensures ∙ sym (batch_is (words c.args.rest.now) items (begun (words c.args.rest.now) items all some) all)
