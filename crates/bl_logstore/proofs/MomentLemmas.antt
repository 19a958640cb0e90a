-- What a cut leaves of a store's disk, in one call.
use Rattle.std.proofs.Common.{◌≡◌, ◌⊎◌, ⊎_elim, ℕ, ◌≤◌, List, ◌++◌, sym, subst, arith, length-append}
use Rattle.std.proofs.lemmas.List.{take-append-le}
use Rattle.bl_site.specs.Disk.{Disk, Cut, IsCut, MayLeave}
use Rattle.bl_site.specs.Calls.{Elapses, LeavesOnly}
use Rattle.bl_site.specs.declared.site.Site.{Ghosts}
use Rattle.bl_site.proofs.Moments.{started, goes_on, cut_of_only}
use Rattle.bl_entry.specs.Batches.{Batch}
use Rattle.bl_wal.specs.LogFile.{LogFile}
use Rattle.bl_logstore.specs.Folders.{Stands}
use Rattle.bl_logstore.specs.Laws.{CutsStand}
use Rattle.bl_logstore.specs.Stored.{StandsOn}
use Rattle.bl_logstore.specs.Cuts.{LeavesFirst}
use Rattle.bl_logstore.proofs.CutLemmas.{OnlyNow}

-- at least so many are at least fewer
pub at_least : (older own : List Batch) (fewer least : ℕ) (told : List ℕ) (c : Cut) → fewer ≤ least → LeavesFirst older own least told c → LeavesFirst older own fewer told c
at_least older own fewer least told c le leaves = record {
  told_is = leaves.told_is;
  whole = leaves.whole;
  stands = λ chance. let s = leaves.stands chance in (s.0, omega (arith, le, s.1), s.2, s.3);
}

-- the first ones are the first ones of more
pub of_more : (older own more : List Batch) (least : ℕ) (told : List ℕ) (c : Cut) → LeavesFirst older own least told c → LeavesFirst older (own ++ more) least told c
of_more older own more least told c leaves = record {
  told_is = leaves.told_is;
  whole = leaves.whole;
  stands = λ chance.
      let s = leaves.stands chance in
      let P : List Batch → Type 0 = λ bs. Stands c.folder (older ++ bs) s.3.0 in
      (s.0, s.1, omega (arith, s.2, length-append own more), (s.3.0, subst P (sym (take-append-le s.0 own more s.2)) s.3.1));
}

module _ {D : Type 0} (g : Ghosts D) (stand : CutsStand)
    (old : D) (only_now : OnlyNow g old) (only : (other : Disk) → g.may_be old other → other ≡ g.disk old) where
  -- one call more, after which no name call is in doubt
  one_stands : (new : D) (P : List ℕ → Cut → Type 0) → g.told new ≡ g.told old → ((other : Disk) → g.may_be new other → other ≡ g.disk new)
      → Elapses (g.clock old) (g.clock new) (g.left_since old) (g.left_since new) (MayLeave (g.may_be new) (g.told new))
      → ((c : Cut) → IsCut (g.disk old) (g.told old) c → P (g.told old) c) → ((c : Cut) → IsCut (g.disk new) (g.told new) c → P (g.told new) c) → LeavesOnly g.clock g.left_since old new (P (g.told old))
  one_stands new P same only_new time before after =
      goes_on g.clock g.left_since old old new (P (g.told old)) (MayLeave (g.may_be new) (g.told new))
      (started g.clock g.left_since old (P (g.told old)) (λ c left. before c (cut_of_only (g.may_be old) (g.disk old) (g.told old) c only (only_now c left)))) time
      (λ c leaves. subst (λ (t : List ℕ). P t c) same (after c (cut_of_only (g.may_be new) (g.disk new) (g.told new) c only_new leaves)))

  module _ (log : LogFile) (older own : List Batch) (synced last : ℕ) (on : StandsOn log older own synced last (g.disk old)) where
    -- no call
    pub still_stands : LeavesOnly g.clock g.left_since old old (LeavesFirst older own synced (g.told old))
    still_stands =
        started g.clock g.left_since old (LeavesFirst older own synced (g.told old))
        (λ c left. stand log older own synced last (g.disk old) (g.told old) c on (cut_of_only (g.may_be old) (g.disk old) (g.told old) c only (only_now c left)))

    pub still_stands_more : (more : List Batch) → LeavesOnly g.clock g.left_since old old (LeavesFirst older (own ++ more) synced (g.told old))
    still_stands_more more =
        started g.clock g.left_since old (LeavesFirst older (own ++ more) synced (g.told old))
        (λ c left. of_more older own more synced (g.told old) c (stand log older own synced last (g.disk old) (g.told old) c on (cut_of_only (g.may_be old) (g.disk old) (g.told old) c only (only_now c left))))

    -- an append, whatever was answered
    pub append_stands : (new : D) (log_next : LogFile) (more : List Batch) (last_next : ℕ) → g.told new ≡ g.told old → ((other : Disk) → g.may_be new other → other ≡ g.disk new)
        → Elapses (g.clock old) (g.clock new) (g.left_since old) (g.left_since new) (MayLeave (g.may_be new) (g.told new))
        → StandsOn log_next older own synced last (g.disk new) ⊎ StandsOn log_next older (own ++ more) synced last_next (g.disk new)
        → LeavesOnly g.clock g.left_since old new (LeavesFirst older (own ++ more) synced (g.told old))
    append_stands new log_next more last_next same only_new time after =
        one_stands new (LeavesFirst older (own ++ more) synced) same only_new time
        (λ c is. of_more older own more synced (g.told old) c (stand log older own synced last (g.disk old) (g.told old) c on is))
        (λ c is. ⊎_elim
        (λ s. of_more older own more synced (g.told new) c (stand log_next older own synced last (g.disk new) (g.told new) c s is))
        (λ s. stand log_next older (own ++ more) synced last_next (g.disk new) (g.told new) c s is)
        after)

    -- a sync, whatever was answered
    pub sync_stands : (new : D) (log_next : LogFile) (synced_next : ℕ) → g.told new ≡ g.told old → ((other : Disk) → g.may_be new other → other ≡ g.disk new)
        → Elapses (g.clock old) (g.clock new) (g.left_since old) (g.left_since new) (MayLeave (g.may_be new) (g.told new))
        → synced ≤ synced_next → StandsOn log_next older own synced_next last (g.disk new)
        → LeavesOnly g.clock g.left_since old new (LeavesFirst older own synced (g.told old))
    sync_stands new log_next synced_next same only_new time le after =
        one_stands new (LeavesFirst older own synced) same only_new time (λ c is. stand log older own synced last (g.disk old) (g.told old) c on is)
        (λ c is. at_least older own synced synced_next (g.told new) c le (stand log_next older own synced_next last (g.disk new) (g.told new) c after is))
