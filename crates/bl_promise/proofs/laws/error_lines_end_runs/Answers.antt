use Rattle.bl_promise.proofs.EndLemmas.{error_lines_keep_cuts, error_lines_keep_runs, stopped_end_full}
use Rattle.bl_promise.proofs.laws.error_lines_end_runs.Goals as goal

pub returns : goal.returns
returns g c =
    let keep = error_lines_keep_cuts g.S.Site (λ site shown t cut. g.met.S.Site.counts_now shown site t cut) in
    record { cuts = keep; runs = error_lines_keep_runs g.S.Site g.R.Source (λ site shown t cut. g.met.S.Site.counts_now shown site t cut); full = stopped_end_full g.S.Site g.R.Source keep }
