use Rattle.bl_entry.proofs.FirstOfStripe.{newest_stands_first}
use Rattle.bl_entry.proofs.laws.newest_stands_first.Goals as goal

pub returns : goal.returns
returns c = newest_stands_first
