use Rattle.bl_promise.proofs.CutLemmas.{cut_in_call, cut_in_reply, lines_keep_cuts}
use Rattle.bl_promise.proofs.laws.cuts_of_lines_are_of_runs.Goals as goal

pub returns : goal.returns
returns c = record { call = cut_in_call; reply = cut_in_reply; more = lines_keep_cuts }
