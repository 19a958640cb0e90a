use Rattle.bl_read.proofs.GivenLemmas.{given_one}
use Rattle.bl_read.proofs.laws.given_maps_are_one.Goals as goal

pub returns : goal.returns
returns c = given_one
