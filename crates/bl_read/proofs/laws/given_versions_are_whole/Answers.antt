use Rattle.bl_read.proofs.GivenLemmas.{given_whole}
use Rattle.bl_read.proofs.laws.given_versions_are_whole.Goals as goal

pub returns : goal.returns
returns c = given_whole c.runs_are_tables.ensures.run c.named_are_read.ensures
