use Rattle.bl_promise.proofs.StatusLemmas.{cuts_survive, openings_cut_runs, openings_survive, refused_openings_cut_runs}
use Rattle.bl_promise.proofs.laws.statuses_survive.Goals as goal

pub returns : goal.returns
returns g c = record {
  survive = cuts_survive g.S.Site g.R.Source;
  failed = openings_survive g.S.Site g.R.Source;
  openings = openings_cut_runs g.S.Site;
  refused = refused_openings_cut_runs g.S.Site (λ site shown t cut. g.met.S.Site.counts_now shown site t cut);
}
