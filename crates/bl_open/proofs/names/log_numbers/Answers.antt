use Rattle.std.proofs.Common.{List, [], ◌∷◌, ◌++◌, ℕ, ap, get_or, subst, sym, take}
use Rattle.std.proofs.lemmas.List.{take_all, take_more}
use Rattle.std.proofs.lemmas.Result.{IfOk-weaker}
use Rattle.bl_names.specs.declared.name.FileName.{FileName}
use Rattle.bl_names.specs.declared.name.FileName.TheVariants.{Current}
use Rattle.bl_open.proofs.ListingLemmas.{LogsOf, log_more, log_numbers_of, log_passed, logs_are}
use Rattle.bl_open.proofs.names.log_numbers.Goals as goal
use Rattle.bl_open.proofs.names.log_numbers.Goals.{in-Log+in_ok-insert, in_default}

pub loop-name-preserved : goal.loop-name-preserved
loop-name-preserved c =
    let files = take c.loop-name.name-index c.args.files.now in
    let f = get_or c.args.files.now c.loop-name.name-index Current in
    subst (λ (fs : List FileName). LogsOf fs c.match-name.numbers.keys) (sym (take_more c.args.files.now c.loop-name.name-index Current c.loop-name-test.true)) (elim c.match-name.branch [
      | in-Log+in_ok-insert w ↦
          subst (λ (ks : List ℕ). LogsOf (files ++ f ∷ []) ks) (sym (ap (λ s. s.keys) w.numbers-is))
          (log_more files f w.in-Log.number c.loop-name.numbers.keys w.insert.new.self.keys w.in-Log.is w.in_ok-insert.ensures.updates.0 c.loop-name.invariant)
      | in_default w ↦
          subst (λ (ks : List ℕ). LogsOf (files ++ f ∷ []) ks) (sym (ap (λ s. s.keys) w.numbers-is)) (log_passed files f c.loop-name.numbers.keys w.in_default.not-Log c.loop-name.invariant)
    ])

pub returns-clause-logs : goal.returns-clause-logs
returns-clause-logs c =
    let whole = take_all c.loop-name.name-index c.args.files.now c.loop-name-test.false in
    IfOk-weaker c.in_order.result _ _ (λ v ordered folder listed. logs_are folder c.args.files.now c.loop-name.numbers.keys v.items ordered.0 ordered.1
    (subst (λ (fs : List FileName). LogsOf fs c.loop-name.numbers.keys) whole c.loop-name.invariant) listed) c.in_order.ensures.ordered

pub returns-clause-numbers : goal.returns-clause-numbers
returns-clause-numbers c = λ all.
    let whole = take_all c.loop-name.name-index c.args.files.now c.loop-name-test.false in
    IfOk-weaker c.in_order.result _ _ (λ v ordered. log_numbers_of c.args.files.now c.loop-name.numbers.keys v.items ordered.0
    (subst (λ (fs : List FileName). LogsOf fs c.loop-name.numbers.keys) whole c.loop-name.invariant) all) c.in_order.ensures.ordered
