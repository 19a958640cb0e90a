use Rattle.std.proofs.Common.{◌∙◌, sym}
use Rattle.bl_script.specs.Lines.{words}
use Rattle.bl_script.proofs.OperationLemmas.{verb_alone, del_first, other_first, put_alone, no_value, put_first}
use Rattle.bl_script.proofs.parse.next_operation.Goals as goal

pub returns-in_default-clause-one : goal.returns-in_default-clause-one
returns-in_default-clause-one c = verb_alone c.args.verb.now (words c.args.rest.now) c.in_default.ensures.words

pub returns-then-is_del-clause-one : goal.returns-then-is_del-clause-one
returns-then-is_del-clause-one c =
    del_first c.args.verb.now c.in-Some.key.now c.in_ok-key.key (words c.args.rest.now) (words c.in-Some.behind_key.now) c.in-Some.ensures.words (sym c.is_del.ensures ∙ c.if-is_del.true) c.in_ok-key.ensures

pub returns-then-not-is_put-clause-one : goal.returns-then-not-is_put-clause-one
returns-then-not-is_put-clause-one c =
    other_first c.args.verb.now c.in-Some.key.now (words c.args.rest.now) (words c.in-Some.behind_key.now) c.in-Some.ensures.words (sym c.is_del.ensures ∙ c.if-is_del.false) (sym c.is_put.ensures ∙ c.if-not-is_put.true)

pub returns-in_default-next_word-clause-one : goal.returns-in_default-next_word-clause-one
returns-in_default-next_word-clause-one c =
    put_alone c.args.verb.now c.in-Some.key.now (words c.args.rest.now) (words c.in-Some.behind_key.now) c.in-Some.ensures.words c.in_default-next_word.ensures.words (sym c.is_del.ensures ∙ c.if-is_del.false)

pub returns-in_default-2-clause-one : goal.returns-in_default-2-clause-one
returns-in_default-2-clause-one c =
    no_value c.args.verb.now c.in-Some.key.now c.in-Some-next_word.third.now (words c.args.rest.now) (words c.in-Some.behind_key.now) (words c.in-Some-next_word.behind_value.now)
    c.in-Some.ensures.words c.in-Some-next_word.ensures.words (sym c.is_del.ensures ∙ c.if-is_del.false) (sym c.is_put.ensures ∙ c.if-not-is_put.false) (sym c.in_default-2.is ∙ c.in_ok-value.ensures)

pub returns-clause-one : goal.returns-clause-one
returns-clause-one c =
    put_first c.args.verb.now c.in-Some.key.now c.in-Some-next_word.third.now c.in-Some-2.value c.in_ok-key-2.key (words c.args.rest.now) (words c.in-Some.behind_key.now) (words c.in-Some-next_word.behind_value.now)
    c.in-Some.ensures.words c.in-Some-next_word.ensures.words (sym c.is_del.ensures ∙ c.if-is_del.false) (sym c.is_put.ensures ∙ c.if-not-is_put.false) (sym c.in-Some-2.is ∙ c.in_ok-value.ensures) c.in_ok-key-2.ensures
