use Rattle.bl_entry.proofs.WrittenLemmas.{entries_are_revisions}
use Rattle.bl_entry.proofs.laws.entries_are_revisions.Goals as goal

pub returns : goal.returns
returns c = entries_are_revisions
