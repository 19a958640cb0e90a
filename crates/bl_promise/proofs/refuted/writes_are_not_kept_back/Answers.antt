use Rattle.bl_promise.proofs.RefutedLemmas.{not_kept_back, not_left_out, not_told_twice}
use Rattle.bl_promise.proofs.refuted.writes_are_not_kept_back.Goals as goal

pub returns : goal.returns
returns c = record { kept = not_kept_back c.folders_stand_for_one_map.ensures.map; twice = not_told_twice; left_out = not_left_out }
