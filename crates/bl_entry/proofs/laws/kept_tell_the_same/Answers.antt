use Rattle.bl_entry.proofs.KeptLemmas.{kept_at_the_bottom_tell_the_same, kept_tell_the_same}
use Rattle.bl_entry.proofs.laws.kept_tell_the_same.Goals as goal

pub returns : goal.returns
returns c = record { all = kept_tell_the_same; bottom = kept_at_the_bottom_tell_the_same }
