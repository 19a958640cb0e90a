use Rattle.bl_out.proofs.OrderLemmas.{apart_in_any_order, once_in_any_order, values_in_any_order}
use Rattle.bl_out.proofs.laws.order_does_not_matter.Goals as goal

pub returns : goal.returns
returns c = record { values = values_in_any_order; once = once_in_any_order; apart = apart_in_any_order }
