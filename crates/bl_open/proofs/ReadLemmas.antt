-- What an opening leaves before its first name call, and how it goes on from there.
use Rattle.std.proofs.Common.{◌≡◌, ℕ, List, refl, ◌∙◌}
use Rattle.bl_site.specs.Disk.{Name, Disk, Cut, IsCut, MayLeave}
use Rattle.bl_site.specs.Calls.{LeavesOnly}
use Rattle.bl_site.specs.Quiet.{OnlyReads}
use Rattle.bl_site.specs.declared.site.Site.{Ghosts}
use Rattle.bl_site.proofs.Moments.{goes_on, cut_of_only}
use Rattle.bl_open.specs.SteadyCuts.{LeavesStanding}
use Rattle.bl_open.specs.Barrier.{BeforeBarrier, FindsFiles, IsOnEitherSide, LeavesFound, MakesNothing, SyncsSome}
use Rattle.bl_open.proofs.MomentLemmas.{AreRemnants, CountsNow, OnlyNow, IsSure, all_before, files_in, found_of_left, found_side, none_files, none_found, none_synced, rest_start, side_found, then_before, then_files, then_found, then_standing}

module _ {D : Type 0} (g : Ghosts D) (shown : g.shows) (only_now : (site : D) → OnlyNow g site) (counts_now : (site : D) → CountsNow g site)
    (only : (site : D) (other : Disk) → g.certain site → g.may_be site other → other ≡ g.disk site) (remnants : (site : D) → AreRemnants g site) where
  sure : (site : D) → g.certain site → IsSure g site
  sure site is other may = only site other is may

  -- ---- a call that only reads

  -- what a cut finds, a cut before might have found
  pub reads_found : (old new : D) → OnlyReads g old new → LeavesOnly g.clock g.left_since old new (LeavesFound (g.may_be old) (g.told old))
  reads_found old new reads =
      goes_on g.clock g.left_since old old new (LeavesFound (g.may_be old) (g.told old)) (MayLeave (g.may_be old) (g.told old)) (none_found g old (only_now old)) (reads.time shown)
      (found_of_left (g.may_be old) (g.told old))

  -- it finds the files that are there
  pub reads_files : (old new : D) → g.certain old → OnlyReads g old new → LeavesOnly g.clock g.left_since old new (FindsFiles (g.disk old) (g.told old))
  reads_files old new is reads =
      goes_on g.clock g.left_since old old new (FindsFiles (g.disk old) (g.told old)) (MayLeave (g.may_be old) (g.told old)) (none_files g old (only_now old) (sure old is)) (reads.time shown)
      (λ c leaves. files_in (g.disk old) (g.told old) c (cut_of_only (g.may_be old) (g.disk old) (g.told old) c (sure old is) leaves))

  -- of a disk of which each cut leaves what stands so it leaves that
  pub reads_standing : (P : Disk → Type 0) (stood : Cut → Type 0) (cuts : (disk : Disk) (told : List ℕ) (c : Cut) → P disk → IsCut disk told c → stood c)
      (old new : D) → g.certain old → P (g.disk old) → OnlyReads g old new → LeavesOnly g.clock g.left_since old new (LeavesStanding stood (g.told old))
  reads_standing P stood cuts old new is rests reads =
      goes_on g.clock g.left_since old old new (LeavesStanding stood (g.told old)) (MayLeave (g.may_be old) (g.told old)) (rest_start g P stood cuts old (only_now old) (sure old is) rests) (reads.time shown)
      (λ c leaves.
      let cut = cut_of_only (g.may_be old) (g.disk old) (g.told old) c (sure old is) leaves in
      record { told_is = cut.told_is; left = cuts (g.disk old) (g.told old) c rests cut })

  -- ---- before the first name call

  pub nothing_yet : (old : D) → MakesNothing g old old
  nothing_yet old = record {
    told = refl;
    found = none_found g old (only_now old);
    certain = λ is. is;
    finds = λ is. none_files g old (only_now old) (sure old is);
  }

  pub reads_make_nothing : (old new : D) → OnlyReads g old new → MakesNothing g old new
  reads_make_nothing old new reads = record {
    told = reads.told shown;
    found = reads_found old new reads;
    certain = (reads.stays shown).certain_stays;
    finds = λ is. reads_files old new is reads;
  }

  -- one run behind another
  pub then_nothing : (old mid new : D) → SyncsSome (g.disk old) (g.disk mid) → MakesNothing g old mid → MakesNothing g mid new → MakesNothing g old new
  then_nothing old mid new some first second = record {
    told = second.told ∙ first.told;
    found = then_found g old mid new (counts_now mid) first.told first.found second.found;
    certain = λ is. second.certain (first.certain is);
    finds = λ is. then_files g old mid new (remnants old) some first.told (first.finds is) (second.finds (first.certain is));
  }

  pub then_reads : (old mid new : D) → SyncsSome (g.disk old) (g.disk mid) → MakesNothing g old mid → OnlyReads g mid new → MakesNothing g old new
  then_reads old mid new some first reads = then_nothing old mid new some first (reads_make_nothing mid new reads)

  pub reads_then : (old mid new : D) → OnlyReads g old mid → MakesNothing g mid new → MakesNothing g old new
  reads_then old mid new reads second = then_nothing old mid new (none_synced (g.disk old) (g.disk mid) (reads.stays shown).same) (reads_make_nothing old mid reads) second

  -- ---- no name call is made, and the opening ends

  pub nothing_before : (name : Name) (old new : D) → MakesNothing g old new → LeavesOnly g.clock g.left_since old new (BeforeBarrier name (g.may_be old) (g.told old))
  nothing_before name old new n = all_before g name old new n.found

  pub nothing_side : (name : Name) (stood : Cut → Type 0) (old new : D) → MakesNothing g old new → LeavesOnly g.clock g.left_since old new (IsOnEitherSide name (g.may_be old) stood (g.told old))
  nothing_side name stood old new n = side_found g name stood old new n.found

  -- ---- or one is made

  pub nothing_then_before : (name : Name) (old mid new : D) → MakesNothing g old mid → LeavesOnly g.clock g.left_since mid new (BeforeBarrier name (g.may_be mid) (g.told mid))
      → LeavesOnly g.clock g.left_since old new (BeforeBarrier name (g.may_be old) (g.told old))
  nothing_then_before name old mid new n second = then_before g name old mid new (counts_now mid) n.told n.found second

  pub nothing_then_side : (name : Name) (stood : Cut → Type 0) (old mid new : D) → MakesNothing g old mid → LeavesOnly g.clock g.left_since mid new (IsOnEitherSide name (g.may_be mid) stood (g.told mid))
      → LeavesOnly g.clock g.left_since old new (IsOnEitherSide name (g.may_be old) stood (g.told old))
  nothing_then_side name stood old mid new n second = found_side g name stood old mid new (counts_now mid) n.told n.found second

  -- ---- a fresh folder, which rests before the first name call

  pub reads_then_standing : (P : Disk → Type 0) (stood : Cut → Type 0) (cuts : (disk : Disk) (told : List ℕ) (c : Cut) → P disk → IsCut disk told c → stood c)
      (old mid new : D) → g.certain old → P (g.disk old) → OnlyReads g old mid → LeavesOnly g.clock g.left_since mid new (LeavesStanding stood (g.told mid))
      → LeavesOnly g.clock g.left_since old new (LeavesStanding stood (g.told old))
  reads_then_standing P stood cuts old mid new is rests reads second = then_standing g stood old mid new (reads.told shown) (reads_standing P stood cuts old mid is rests reads) second
