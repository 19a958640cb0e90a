use Rattle.bl_manifest.proofs.LawLemmas.{PlacedAreRecords, decided, not_both, one_place}
use Rattle.bl_manifest.proofs.laws.bytes_are_decided.Goals as goal

pub returns-clause-decided : goal.returns-clause-decided
unfolding PlacedAreRecords
returns-clause-decided c = decided c.placed_records_are_records.ensures

pub returns-clause-not_both : goal.returns-clause-not_both
unfolding PlacedAreRecords
returns-clause-not_both c = not_both c.placed_records_are_records.ensures

pub returns-clause-one_place : goal.returns-clause-one_place
unfolding PlacedAreRecords
returns-clause-one_place c = one_place c.placed_records_are_records.ensures
