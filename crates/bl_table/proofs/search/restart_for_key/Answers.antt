use Rattle.std.proofs.Common.{◌≡◌, ◌∙◌, ap, sym, arith, length, take}
use Rattle.std.specs.Ordering.{is_lt}
use Rattle.bl_code.specs.Order.{key_order}
use Rattle.bl_table.proofs.RestartLemmas.{middle, inside, key_found, key_long, begins_for_key}
use Rattle.bl_table.proofs.search.restart_for_key.Goals as goal
use Rattle.bl_table.proofs.search.restart_for_key.Goals.{in-Some, in-None}

pub restart_key-requires : goal.restart_key-requires
restart_key-requires c =
    let x = middle c.requires.good.0 c.args.limit c.args.count c.restarts.low c.restarts.high c.number_at-restart.result c.args.bytes.now c.requires.good.1 c.restarts-test.true c.restarts.invariant.within c.number_at-restart.ensures in
    let n : length c.split_at.result.0.now ≡ length (take c.args.limit c.args.bytes.now) = ap length c.split_at.ensures.front in
    let within = inside c.requires.good.0 (take c.args.limit c.args.bytes.now) c.number_at-restart.result x in
    omega arith

pub is_before-is_less-requires-clause-first : goal.is_before-is_less-requires-clause-first
is_before-is_less-requires-clause-first c =
    let x = middle c.requires.good.0 c.args.limit c.args.count c.restarts.low c.restarts.high c.number_at-restart.result c.args.bytes.now c.requires.good.1 c.restarts-test.true c.restarts.invariant.within c.number_at-restart.ensures in
    let key : c.in-Some.key.now ≡ x.cell.key = key_found c.requires.good.0 (take c.args.limit c.args.bytes.now) c.split_at.result.0.now c.number_at-restart.result x c.in-Some.key.now c.split_at.ensures.front c.in-Some.ensures in
    let n : length c.in-Some.key.now ≡ length x.cell.key = ap length key in
    let long = key_long c.requires.good.0 (take c.args.limit c.args.bytes.now) c.number_at-restart.result x in
    omega arith

pub restarts-preserved-then-is_less : goal.restarts-preserved-then-is_less
restarts-preserved-then-is_less c =
    let order = c.restarts-test.true in
    let within = c.restarts.invariant.within in
    record {
      order = omega arith;
      within = within;
      begins = λ offset good.
          let x = middle offset c.args.limit c.args.count c.restarts.low c.restarts.high c.number_at-restart.result c.args.bytes.now good order within c.number_at-restart.ensures in
          elim c.match-restart_key.branch [
            | in-Some w ↦
                let key : w.in-Some.key.now ≡ x.cell.key = key_found offset (take c.args.limit c.args.bytes.now) c.split_at.result.0.now c.number_at-restart.result x w.in-Some.key.now c.split_at.ensures.front w.in-Some.ensures in
                begins_for_key offset (take c.args.limit c.args.bytes.now) c.number_at-restart.result c.args.from.now x
                (ap (λ k. is_lt (key_order k c.args.from.now)) (sym key) ∙ sym w.is_before-is_less.ensures ∙ sym w.is_less-is ∙ c.if-is_less.true)
            | in-None w ↦ absurd (let e = sym w.is_less-is ∙ c.if-is_less.true in cc)
          ];
    }
