use Rattle.std.proofs.Common.{map, string_bytes, sym, ◌∙◌, subst, arith}
use Rattle.std.proofs.lemmas.Iterator.Adapters.{YieldsList-from_vec}
use Rattle.std.proofs.lemmas.Iterator.Consumers.{YieldsList-end}
use Rattle.std.proofs.lemmas.List.{map-id}
use Rattle.std.specs.List.{Contains}
use Rattle.bl_main.specs.Logs.{HasLogs}
use Rattle.bl_main.proofs.LogLemmas.{taken, one_more_name, no_log, none_ascend, listed}
use Rattle.bl_main.proofs.logs.list_logs.Goals as goal

pub loop-name-init : goal.loop-name-init
loop-name-init g c = record { ascend = none_ascend c.new-logs.result c.new-logs.ensures.empty; exact = no_log c.new-logs.result c.new-logs.ensures.empty }

pub loop-name-preserved : goal.loop-name-preserved
loop-name-preserved g c = record {
  ascend = c.in_ok-put_log.ensures.ordered c.loop-name.invariant.ascend;
  exact = taken c.names_one.ensures _ _ c.in-Some.name c.loop-name.logs c.put_log.new.logs (one_more_name c.loop-name.yielded c.in-Some.name) c.in_ok-put_log.ensures.put c.loop-name.invariant.exact;
}

pub returns-clause-logs : goal.returns-clause-logs
returns-clause-logs g c = λ shown.
    let gives = c.into_iter-name-iterator.ensures.into_iter_gives in
    let items = c.in_ok-name-items.name-items.items in
    let yielded = c.loop-name.yielded in
    let seen = YieldsList-end (YieldsList-from_vec {s = c.into_iter-name-iterator.result} items gives.0 (omega (arith, gives.1, c.in_ok-name-items.name-items.ok))) yielded c.loop-name.name-iterator c.loop-name.yielded_by c.next.result c.next.new.self c.in-None.is c.next.ensures.steps in
    record {
      ascend = c.loop-name.invariant.ascend;
      exact = listed (g.S.Site.disk c.args.site.now) items c.loop-name.logs (c.in_ok-name-items.ensures.value shown)
          (subst (λ ns. HasLogs (λ x. Contains (map string_bytes ns) x) c.loop-name.logs) (sym (map-id yielded) ∙ seen.0) c.loop-name.invariant.exact);
    }
