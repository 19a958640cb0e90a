-- The logs among the names so far.
use Rattle.std.proofs.Common.{map, string_bytes}
use Rattle.std.specs.List.{Contains}
use Rattle.std.specs.BTreeMap.{IsOrdered}
use Rattle.std.specs.Ordering.{nat_cmp}
use Rattle.bl_main.specs.Logs.{HasLogs}
use Rattle.bl_main.proofs.logs.list_logs.Given as goal

abbrev pub invariant-loop-name : goal.invariant-loop-name
invariant-loop-name g l = record {
  ascend : IsOrdered nat_cmp l.logs;
  exact : HasLogs (λ name. Contains (map string_bytes l.yielded) name) l.logs;
}
