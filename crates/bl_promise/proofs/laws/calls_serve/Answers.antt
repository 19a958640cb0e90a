use Rattle.bl_promise.proofs.ServeLemmas.{answered_are_served, flushes_serve, quiet_lines_serve, reads_answer, reads_serve, reopenings_serve, replied_are_served, syncs_serve, telling_serves, writes_serve}
use Rattle.bl_promise.proofs.laws.calls_serve.Goals as goal

pub returns : goal.returns
returns g c =
    let lines = c.calls_are_lines.ensures in
    let cuts = c.steady_disks_are_left.ensures.cuts in
    let telling = telling_serves g.S.Site cuts (λ site shown certain other. g.met.S.Site.only shown site other certain) in
    record {
      writes = writes_serve g.S.Site lines.writes;
      flushes = flushes_serve g.S.Site lines.flushes;
      syncs = syncs_serve g.S.Site lines.syncs;
      reopenings = reopenings_serve g.S.Site lines.reopenings;
      quiet = quiet_lines_serve g.S.Site lines.quiet;
      reads = reads_serve g.S.Site cuts (λ site shown certain other. g.met.S.Site.only shown site other certain);
      telling = telling;
      between = reads_answer g.S.Site cuts (λ site shown certain other. g.met.S.Site.only shown site other certain);
      replied = replied_are_served g.S.Site telling;
      answered = answered_are_served g.S.Site;
    }
