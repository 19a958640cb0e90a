use Rattle.bl_flush.proofs.SealedLemmas.{IsSealing, files_left}
use Rattle.bl_flush.proofs.flush.seal_all.Given as goal

-- so many files are sealed, and the edit names them
abbrev pub invariant-files : goal.invariant-files
invariant-files g l = IsSealing g.S.Site l.fn.output l.output l.edit l.fn.site l.site

abbrev pub decreases-files : goal.decreases-files
decreases-files g l = files_left l.output
