use Rattle.bl_merge.proofs.SeenLemmas.{latest_tells}
use Rattle.bl_merge.proofs.laws.latest_tells_the_value.Goals as goal

pub returns : goal.returns
returns c = latest_tells
