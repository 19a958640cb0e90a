use Rattle.bl_promise.proofs.StatusLemmas.{damage_ends, differs_end, full_opening, lines_are_told}
use Rattle.bl_promise.proofs.laws.refusals_end_runs.Goals as goal

pub returns : goal.returns
returns g c = record {
  differs = differs_end g.S.Site g.R.Source;
  damage = damage_ends g.S.Site g.R.Source c.refusals_are_one.ensures.sound;
  told = lines_are_told g.S.Site g.R.Source;
  full = full_opening g.S.Site (λ site shown t cut. g.met.S.Site.counts_now shown site t cut) g.R.Source;
}
