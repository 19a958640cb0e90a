use Rattle.bl_promise.proofs.StatusLemmas.{differ_answers, done_answers, failures_answer, falters_answer, full_answers, lines_in_part_answer, taken_answers}
use Rattle.bl_promise.proofs.laws.statuses_answer.Goals as goal

pub returns : goal.returns
returns g c = record {
  done = done_answers g.S.Site g.R.Source;
  taken = taken_answers g.S.Site g.R.Source;
  full = full_answers g.S.Site g.R.Source;
  differ = differ_answers g.S.Site g.R.Source;
  failures = failures_answer g.S.Site g.R.Source;
  falters = falters_answer g.S.Site g.R.Source;
  in_part = lines_in_part_answer g.S.Site g.R.Source;
}
