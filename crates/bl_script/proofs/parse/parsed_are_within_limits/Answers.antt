use Rattle.bl_script.proofs.LimitLemmas.{within}
use Rattle.bl_script.proofs.parse.parsed_are_within_limits.Goals as goal

pub returns : goal.returns
returns c = within
