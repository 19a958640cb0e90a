use Rattle.std.proofs.Common.{◌++◌, ◌∷◌, [], arith, subst, sym}
use Rattle.std.proofs.lemmas.Iterator.Adapters.{YieldsList-from_vec}
use Rattle.std.proofs.lemmas.Iterator.Consumers.{YieldsList-so_far, YieldsList-turn}
use Rattle.std.proofs.lemmas.Result.{err_from_is_err_and}
use Rattle.bl_cache.proofs.EntryLemmas.{IsDecoded, fault_in, one_more}
use Rattle.bl_cache.proofs.entries.proper_entries.Goals as goal

pub returns-in_err-proper_entry-clause-fault : goal.returns-in_err-proper_entry-clause-fault
returns-in_err-proper_entry-clause-fault c = λ place is.
    let gives = c.into_iter-item-iterator.ensures.into_iter_gives in
    let all = YieldsList-from_vec {s = c.into_iter-item-iterator.result} c.args.items.items gives.0 (omega (arith, gives.1, c.args.items.ok)) in
    let front = YieldsList-so_far all c.loop-item.yielded c.loop-item.item-iterator c.loop-item.yielded_by in
    let turn = YieldsList-turn all c.loop-item.yielded c.loop-item.item-iterator c.loop-item.yielded_by c.next.result c.next.new.self c.in-Some.item c.in-Some.is c.next.ensures.steps in
    fault_in c.args.items.items c.loop-item.yielded c.in-Some.item c.loop-item.entries.items place front turn.0 turn.1 c.loop-item.invariant.2
    (c.in_err-proper_entry.ensures.fault place
    (let p = err_from_is_err_and c.from_residual-in_err-proper_entry.result c.from_residual-in_err-proper_entry.ensures.1 in cc (p.1, p.2, is)))

pub loop-item-preserved : goal.loop-item-preserved
loop-item-preserved c = (
  tt,
  tt,
  subst (IsDecoded (c.loop-item.yielded ++ c.in-Some.item ∷ [])) (sym c.in_ok-push.ensures.items)
      (one_more c.loop-item.yielded c.in-Some.item c.loop-item.entries.items c.in_ok-proper_entry.field-0 c.loop-item.invariant.2 c.in_ok-proper_entry.ensures.given c.in_ok-proper_entry.ensures.proper),
)
