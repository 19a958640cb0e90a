use Rattle.std.proofs.Common.{◌≡◌, ◌++◌, take, flat_map}
use Rattle.bl_code.specs.Numbers.{fixed32}
use Rattle.bl_table.proofs.spell.put_restarts.Given as goal

abbrev pub invariant-restarts : goal.invariant-restarts
invariant-restarts l = l.out.items ≡ l.fn.out.items ++ flat_map fixed32 (take l.restart-index l.restarts)
