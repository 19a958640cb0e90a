use Rattle.std.proofs.Common.{ap, sym, ◌∙◌}
use Rattle.std.specs.Prelude.{◌&&◌}
use Rattle.bl_code.specs.Order.{bytes_le}
use Rattle.bl_logstore.proofs.MapLemmas.{no_greater, not_less, not_past, none_between, filter_same}
use Rattle.bl_logstore.proofs.store.between.Goals as goal

pub range-requires : goal.range-requires
range-requires c = no_greater c.args.from.now

pub range-requires-else-lt : goal.range-requires-else-lt
range-requires-else-lt c = not_less c.args.from.now c.args.to.now (sym c.lt.ensures ∙ c.if-lt.false)

pub returns-then-lt : goal.returns-then-lt
returns-then-lt c = c.range.ensures.between tt ∙ filter_same _ _ c.args.map.now.entries (λ e. none_between c.args.from.now c.args.to.now e.0 (sym c.lt.ensures ∙ c.if-lt.true))

pub returns-else-lt : goal.returns-else-lt
returns-else-lt c = c.range-else-lt.ensures.between tt ∙ filter_same _ _ c.args.map.now.entries (λ e. ap (λ b. bytes_le c.args.from.now e.0 && b) (not_past e.0 c.args.to.now))
