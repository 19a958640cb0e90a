-- Calls that only read, among others.
use Rattle.bl_site.specs.Disk.{Cut, MayLeave}
use Rattle.bl_site.specs.Calls.{LeavesOnly}
use Rattle.bl_site.specs.Quiet.{OnlyReads}
use Rattle.bl_site.specs.declared.site.Site.{Ghosts}
use Rattle.bl_site.proofs.Moments.{goes_on}
use Rattle.bl_logstore.proofs.CutLemmas.{CountsNow, OnlyNow, at_end, one_call}

module _ {S : Type 0} (g : Ghosts S) (shown : g.shows) where
  -- a cut meanwhile leaves what one before might have left
  pub reads_left : (old new : S) → OnlyNow g old → OnlyReads g old new → LeavesOnly g.clock g.left_since old new (MayLeave (g.may_be old) (g.told old))
  reads_left old new only reads =
      one_call g old new (MayLeave (g.may_be old) (g.told old)) (MayLeave (g.may_be old) (g.told old)) only (λ c left. left) (reads.time shown) (λ c left. left)

  -- and what one might have left of the calls before
  pub then_reads : (old mid new : S) (P : Cut → Type 0) → CountsNow g mid → LeavesOnly g.clock g.left_since old mid P → OnlyReads g mid new
      → LeavesOnly g.clock g.left_since old new P
  then_reads old mid new P counts first reads =
      goes_on g.clock g.left_since old mid new P (MayLeave (g.may_be mid) (g.told mid)) first (reads.time shown) (at_end g old mid P counts first)
