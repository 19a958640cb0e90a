use Rattle.bl_promise.proofs.BeginLemmas.{openings_begin}
use Rattle.bl_promise.proofs.laws.openings_begin_runs.Goals as goal

pub returns : goal.returns
returns g c =
    openings_begin g.S.Site c.folders_stand_for_one_map.ensures.live c.folders_stand_for_one_map.ensures.batches c.steady_disks_are_left.ensures.cuts c.calls_are_lines.ensures.order c.calls_are_lines.ensures.begun
    (λ site shown certain other. g.met.S.Site.only shown site other certain) (λ site shown cut. g.met.S.Site.only_now shown site cut)
