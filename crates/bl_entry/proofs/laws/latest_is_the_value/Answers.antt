use Rattle.bl_entry.proofs.LatestLemmas.{latest_is_greatest, latest_is_the_value}
use Rattle.bl_entry.proofs.OrderLemmas.{ascending_in_order}
use Rattle.bl_entry.proofs.laws.latest_is_the_value.Goals as goal

pub returns : goal.returns
returns c = record { order = ascending_in_order; greatest = latest_is_greatest; value = latest_is_the_value }
