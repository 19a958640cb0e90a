-- What a run promises before the line that ends it is told.
use Rattle.std.specs.Prelude.{◌≡◌, ◌⊎◌, ℕ, ◌-◌, ◌^◌, ◌≤◌, IfErr, IsErr, IsErrOf, IsSome, OnOk, Result, Err}
use Rattle.bl_site.specs.Disk.{Name, Cut}
use Rattle.bl_site.specs.Causes.{Rose}
use Rattle.bl_site.specs.declared.site.Site.{Ghosts as SiteGhosts}
use Rattle.bl_site.specs.declared.source.Source.{Ghosts as SourceGhosts}
use Rattle.bl_wal.specs.LogFile.{log_name}
use Rattle.bl_logstore.specs.Cuts.{AreWhole}
use Rattle.bl_logstore.specs.Damage.{IsDamaged}
use Rattle.bl_logstore.specs.Stored.{KeepsOthers, HasNextLog}
use Rattle.bl_shell.specs.Causes.{IsOpening, IsReading, IsSilent, TookOver}
use Rattle.bl_shell.specs.Cuts.{CutInRun, CutPast, IsKept, StopsBeforeScript, StopsRun}
use Rattle.bl_shell.specs.Headline.{Run, TellsTaken, folder, folder_after}
use Rattle.bl_shell.specs.Machine.{orders}
use Rattle.bl_shell.specs.Telling.{HasRun, HasBegun, HasFaltered}
use Rattle.bl_shell.specs.declared.stop.Stop.{Stop}
use Rattle.bl_shell.specs.declared.stop.Stop.TheVariants as stop

abbrev pub Ran : Type 0
Ran = Result (Unit {0}) Stop

-- a cut behind the barrier of the opening, before a line that ends the run
abbrev pub IsPast : (run : Run) → Cut → Type 0
IsPast run c = CutPast (folder run) (orders run.script) run.told c

-- What was told, and the map of the folder left.
pub record ServesAsMap (run : Run) (result : Ran) : Type 0 where
  pub done : OnOk result (HasRun (folder run) (folder_after run) run.script run.told run.told_after)
  pub taken : IfErr result (λ e. IsReading e → TellsTaken run (e ≡ stop.Long))
  pub front : IfErr result (λ e. IsSilent e → (run.told_after ≡ run.told) ⊎ HasBegun (folder run) run.script run.told run.told_after)
  pub faltered : IsErrOf result stop.Tell → HasFaltered (folder run) (folder_after run) run.script run.told run.told_after
  pub full : (limit : ℕ) → result ≡ Err (stop.Full limit) → StopsRun run.may_be (folder run) (folder_after run) run.script run.told run.told_after limit run.EachCut

-- What every power cut leaves.
pub record StandsCuts (run : Run) (result : Ran) : Type 0 where
  pub kept : OnOk result (IsKept run.certain_after run.may_be_after run.disk_after run.told_after (folder run) run.script)
  pub any_moment : run.EachCut (CutInRun run.may_be (folder run) (orders run.script) run.told)
  -- the opening failed and nothing of the script was read, or every cut from some moment on is behind the barrier
  pub past : (IsErr result × IfErr result (StopsBeforeScript (folder run) run.disk_after) × (run.left ≡ run.script)) ⊎ run.EachLateCut (IsPast run)
  pub made : HasNextLog (folder run) run.disk_after → run.certain_after → run.EachLateCut (IsPast run)
  pub whole : HasNextLog (folder run) run.disk_after → AreWhole run.disk_after
  pub barrier : run.certain → run.EachCut (λ c. HasNextLog (folder run) c.written → IsPast run c)

-- What is refused, and left alone.
pub record RefusesBefore (run : Run) (result : Ran) : Type 0 where
  pub corrupt : (name : Name) (place : ℕ) → result ≡ Err (stop.Corrupt name place) → IsDamaged (folder run) name place × (run.told_after ≡ run.told) × (folder_after run ≡ folder run)
  pub damaged : (name : Name) (place : ℕ) → IsDamaged (folder run) name place → IsErr result × IfErr result IsOpening
  pub last_log : IsSome (folder run (log_name (10 ^ 15 - 1))) → IsErr result × IfErr result (λ e. IsOpening e ⊎ (e ≡ stop.Full (10 ^ 15)))
  pub others : KeepsOthers run.disk run.disk_after

-- Each failure but want of memory has its cause in this call. The count of the output's failures does not fall.
pub record HasRunCauses {S R : Type 0} (s : SiteGhosts S) (r : SourceGhosts R) (result : Ran) (script after : R) (old new : S) : Type 0 where
  pub read : IsErrOf result stop.Read → Rose (r.faults script) (r.faults after)
  pub long : IsErrOf result stop.Long → TookOver (2 ^ 40) (r.taken script) (r.taken after)
  pub disk : IsErrOf result stop.Disk → Rose (s.disk_faults old) (s.disk_faults new)
  pub tell : IsErrOf result stop.Tell → Rose (s.tell_faults old) (s.tell_faults new)
  pub later : s.tell_faults old ≤ s.tell_faults new
