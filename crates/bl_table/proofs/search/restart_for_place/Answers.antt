use Rattle.std.proofs.Common.{arith, take}
use Rattle.bl_table.proofs.RestartLemmas.{middle, begins_for_place}
use Rattle.bl_table.proofs.search.restart_for_place.Goals as goal

pub restarts-preserved-then-from-at : goal.restarts-preserved-then-from-at
restarts-preserved-then-from-at c =
    let order = c.restarts-test.true in
    let within = c.restarts.invariant.within in
    let same = c.from.ensures in
    let up = c.if-from-at.true in
    record {
      order = omega arith;
      within = within;
      begins = λ offset good. begins_for_place offset (take c.args.limit c.args.bytes.now) c.number_at-restart.result c.args.at
          (middle offset c.args.limit c.args.count c.restarts.low c.restarts.high c.number_at-restart.result c.args.bytes.now good order within c.number_at-restart.ensures) (omega arith);
    }
