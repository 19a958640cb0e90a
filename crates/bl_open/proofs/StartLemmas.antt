-- How a store begins: the log, and then what is installed.
use Rattle.std.proofs.Common.{◌≡◌, inl, inr, ℕ, refl, subst, arith}
use Rattle.bl_site.specs.Disk.{Cut, Disk, Name}
use Rattle.bl_site.specs.Calls.{LeavesOnly}
use Rattle.bl_site.specs.declared.site.Site.{Ghosts}
use Rattle.bl_site.proofs.Moments.{joins, widened}
use Rattle.bl_names.specs.declared.name.FileName.TheVariants.{Log}
use Rattle.bl_names.specs.Names.{IsNumber}
use Rattle.bl_folder.specs.Holding.{Holding}
use Rattle.bl_open.specs.Barrier.{BeforeBarrier, IsOnEitherSide}
use Rattle.bl_open.specs.Found.{Found, HasTables, MayBeMade}
use Rattle.bl_open.specs.Steady.{Maps}
use Rattle.bl_open.specs.SteadyCuts.{LeavesStanding}

-- the log may be made
pub log_may : (found : Found) (maps : Maps) (log : ℕ) (h : Holding) (disk : Disk) → IsNumber log → HasTables maps log h disk → MayBeMade found disk (Log log)
log_may found maps log h disk is t = inr (log, refl, t.behind log is (omega arith))

module _ {D : Type 0} (g : Ghosts D) (name : Name) (stood : Cut → Type 0) (old mid : D) where
  -- a call before the barrier is over
  pub side_before : LeavesOnly g.clock g.left_since old mid (BeforeBarrier name (g.may_be old) (g.told old)) → LeavesOnly g.clock g.left_since old mid (IsOnEitherSide name (g.may_be old) stood (g.told old))
  side_before before = widened g.clock g.left_since old mid (BeforeBarrier name (g.may_be old) (g.told old)) (IsOnEitherSide name (g.may_be old) stood (g.told old)) (λ c b. inl b) before

  pub side_behind : LeavesOnly g.clock g.left_since old mid (LeavesStanding stood (g.told old)) → LeavesOnly g.clock g.left_since old mid (IsOnEitherSide name (g.may_be old) stood (g.told old))
  side_behind stands = widened g.clock g.left_since old mid (LeavesStanding stood (g.told old)) (IsOnEitherSide name (g.may_be old) stood (g.told old)) (λ c s. inr s) stands

  -- and one behind it
  pub then_side : (new : D) → g.told mid ≡ g.told old → LeavesOnly g.clock g.left_since old mid (IsOnEitherSide name (g.may_be old) stood (g.told old)) → LeavesOnly g.clock g.left_since mid new (LeavesStanding stood (g.told mid))
      → LeavesOnly g.clock g.left_since old new (IsOnEitherSide name (g.may_be old) stood (g.told old))
  then_side new same first second =
      joins g.clock g.left_since old mid new (IsOnEitherSide name (g.may_be old) stood (g.told old)) first
      (widened g.clock g.left_since mid new (LeavesStanding stood (g.told mid)) (IsOnEitherSide name (g.may_be old) stood (g.told old)) (λ c s. inr (subst (λ t. LeavesStanding stood t c) same s)) second)

  pub then_stands : (new : D) → g.told mid ≡ g.told old → LeavesOnly g.clock g.left_since old mid (LeavesStanding stood (g.told old)) → LeavesOnly g.clock g.left_since mid new (LeavesStanding stood (g.told mid))
      → LeavesOnly g.clock g.left_since old new (LeavesStanding stood (g.told old))
  then_stands new same first second =
      joins g.clock g.left_since old mid new (LeavesStanding stood (g.told old)) first
      (widened g.clock g.left_since mid new (LeavesStanding stood (g.told mid)) (LeavesStanding stood (g.told old)) (λ c s. subst (λ t. LeavesStanding stood t c) same s) second)
