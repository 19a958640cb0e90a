-- What a cut finds of an opening's next log.
use Rattle.std.proofs.Common.{◌≡◌, ℕ, List, ◌++◌, Option, IsSome, subst}
use Rattle.bl_site.specs.Disk.{File, Disk, Cut, IsCut, MayLeave, folder_of}
use Rattle.bl_site.specs.Calls.{Creates, MayDuring, Elapses, LeavesOnly}
use Rattle.bl_site.specs.declared.site.Site.{Ghosts}
use Rattle.bl_site.proofs.Moments.{started, joins, widened, certain_call, name_call, cut_of_only}
use Rattle.bl_wal.specs.LogFile.{log_name}
use Rattle.bl_logstore.specs.Cuts.{FindsNoNewFile, FindsOpened}
use Rattle.bl_logstore.specs.Stored.{HasNextLog, IsOpened, MakesNoFile}
use Rattle.bl_logstore.proofs.FolderLemmas.{there_reads, was_some}
use Rattle.bl_logstore.proofs.OtherLemmas.{no_next}

-- the names of what was written are those of the disk
pub no_new_in : (disk : Disk) (told : List ℕ) (c : Cut) → IsCut disk told c → FindsNoNewFile disk c
no_new_in disk told c is name some =
    let P : Option (List ℕ) → Type 0 = IsSome in
    was_some (λ (file : File). file.front ++ file.handed) (disk name) (subst P (is.written_is name) some)

-- a cut that finds no new file does not find the next log
pub finds_no_next : (disk : Disk) (c : Cut) → FindsNoNewFile disk c → HasNextLog (folder_of disk) c.written → ⊥
finds_no_next disk c none = no_next (folder_of disk) c.written (λ name some. there_reads (disk name) (none name some))

module _ {D : Type 0} (clock : D → ℕ) (left_since : D → ℕ → Cut → Type 0) (disk : D → Disk) (told : D → List ℕ) (may_be : D → Disk → Type 0) where
  -- no call was made
  pub no_call_no_new : (old : D) → ((other : Disk) → may_be old other → other ≡ disk old) → ((c : Cut) → left_since old (clock old) c → MayLeave (may_be old) (told old) c)
      → LeavesOnly clock left_since old old (FindsNoNewFile (disk old))
  no_call_no_new old only now = started clock left_since old (FindsNoNewFile (disk old)) (λ c left. no_new_in (disk old) (told old) c (cut_of_only (may_be old) (disk old) (told old) c only (now c left)))

module _ {D : Type 0} (g : Ghosts D) where
  -- what reads alone
  pub reads_no_new : (old new : D) → ((other : Disk) → g.may_be old other → other ≡ g.disk old) → LeavesOnly g.clock g.left_since old new (MayLeave (g.may_be old) (g.told old))
      → LeavesOnly g.clock g.left_since old new (FindsNoNewFile (g.disk old))
  reads_no_new old new only leaves = widened g.clock g.left_since old new _ _ (λ c m. no_new_in (g.disk old) (g.told old) c (cut_of_only (g.may_be old) (g.disk old) (g.told old) c only m)) leaves

  -- a call that makes no file
  pub call_no_new : (old new : D) → MakesNoFile (g.disk old) (g.disk new) → LeavesOnly g.clock g.left_since old old (FindsNoNewFile (g.disk old))
      → Elapses (g.clock old) (g.clock new) (g.left_since old) (g.left_since new) (MayLeave (g.may_be new) (g.told new)) → ((other : Disk) → g.may_be new other → other ≡ g.disk new)
      → LeavesOnly g.clock g.left_since old new (FindsNoNewFile (g.disk old))
  call_no_new old new none before time only =
      certain_call g.clock g.left_since g.disk g.told g.may_be old old new (FindsNoNewFile (g.disk old)) before time only (λ c is name some. none name (no_new_in (g.disk new) (g.told new) c is name some))

  -- one run behind another
  pub then_no_new : (old mid new : D) → MakesNoFile (g.disk old) (g.disk mid) → LeavesOnly g.clock g.left_since old mid (FindsNoNewFile (g.disk old))
      → LeavesOnly g.clock g.left_since mid new (FindsNoNewFile (g.disk mid)) → LeavesOnly g.clock g.left_since old new (FindsNoNewFile (g.disk old))
  then_no_new old mid new none first second =
      let P : Cut → Type 0 = FindsNoNewFile (g.disk old) in
      joins g.clock g.left_since old mid new P first (widened g.clock g.left_since mid new _ P (λ c h name some. none name (h name some)) second)

  -- the next log is not made yet
  pub unmade_behind : (old new : D) → LeavesOnly g.clock g.left_since old new (FindsNoNewFile (g.disk old))
      → LeavesOnly g.clock g.left_since old new (λ c. HasNextLog (folder_of (g.disk old)) c.written → FindsOpened (folder_of (g.disk old)) (g.told old) c)
  unmade_behind old new none = widened g.clock g.left_since old new _ _ (λ c h next. absurd (finds_no_next (g.disk old) c h next)) none

  -- it is made: a cut meanwhile finds the disk without it, or as it is opened
  pub made_behind : (number : ℕ) (old mid new : D) → MakesNoFile (g.disk old) (g.disk mid) → LeavesOnly g.clock g.left_since old mid (FindsNoNewFile (g.disk old))
      → Elapses (g.clock mid) (g.clock new) (g.left_since mid) (g.left_since new) (MayLeave (MayDuring (Creates (log_name number)) (g.may_be mid)) (g.told mid))
      → ((other : Disk) → g.may_be mid other → other ≡ g.disk mid) → g.told mid ≡ g.told old
      → ((after : Disk) → Creates (log_name number) (g.disk mid) after → IsOpened (folder_of (g.disk old)) after)
      → LeavesOnly g.clock g.left_since old new (λ c. HasNextLog (folder_of (g.disk old)) c.written → FindsOpened (folder_of (g.disk old)) (g.told old) c)
  made_behind number old mid new none first time only same opens =
      let P : Cut → Type 0 = λ c. HasNextLog (folder_of (g.disk old)) c.written → FindsOpened (folder_of (g.disk old)) (g.told old) c in
      name_call g.clock g.left_since g.disk g.told g.may_be (Creates (log_name number)) old mid new P (unmade_behind old mid first) time only
      (λ c is next. absurd (finds_no_next (g.disk old) c (λ name some. none name (no_new_in (g.disk mid) (g.told mid) c is name some)) next))
      (λ after c made is next. record { disk = after; opened = opens after made; is_cut = (let Q : List ℕ → Type 0 = λ t. IsCut after t c in subst Q same is) })
