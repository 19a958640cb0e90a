use Rattle.bl_memtab.proofs.FilledLemmas.{later_is_free}
use Rattle.bl_memtab.proofs.laws.later_is_free.Goals as goal

pub returns : goal.returns
returns c = later_is_free
