use Rattle.bl_cache.proofs.PlacedLemmas.{named_is_read}
use Rattle.bl_cache.proofs.laws.named_are_read.Goals as goal

pub returns : goal.returns
returns c = named_is_read
