use Rattle.std.proofs.Common.{◌≡◌, ap, arith, rules, take, drop, length, ◌+◌, ◌-◌, ◌<◌, ◌^◌}
use Rattle.bl_table.proofs.WholeLemmas.{found}
use Rattle.bl_table.proofs.whole.find_block.Goals as goal

pub returns-clause-found : goal.returns-clause-found
returns-clause-found c =
    let n : c.args.handle.offset + c.args.handle.size + 5 - c.args.handle.offset ≡ c.args.handle.size + 5 = omega arith in
    let small : length c.args.table.now < 2 ^ 64 = search rules in
    found c.args.table.now _ c.args.handle _ c.requires small (ap (λ k. take k (drop c.args.handle.offset c.args.table.now)) n) c.in_ok-fault.ensures (c.entries_of-bare.ensures.bare c.args.handle.offset) (c.entries_of-bare.ensures.cells c.args.handle.offset)
