-- The last failure, by what a call of the site answers.
use Rattle.std.proofs.Common.{◌≡◌, ◌≢◌, ℕ, Option, Result, Ok, Err, IsErr, IsErrOf, IfErr, refl, sym, subst}
use Rattle.bl_site.specs.Disk.{Name}
use Rattle.bl_site.specs.declared.site.SiteErr.{SiteErr}
use Rattle.bl_site.specs.declared.site.SiteErr.TheVariants.{DiskFailed, TellFailed, OutOfMemory}
use Rattle.bl_site_host.specs.Faults.{IsCounted}
use Rattle.bl_site_host.specs.Failures.{IsKept, IsLast}
use Rattle.bl_site_host.specs.declared.faults.Fault.{Fault}
use Rattle.bl_site_host.specs.declared.faults.Fault.TheVariants.{Disk, Memory}
use Rattle.bl_site_host.specs.declared.failure.Asked.{Asked}
use Rattle.bl_site_host.specs.declared.failure.Failure.{Failure}

module _ {T : Type 0} (asked : Asked) (name : Name) (old new : Option Failure) where
  last_at : (answer : Result T SiteErr) (result : Result T SiteErr) → result ≡ answer → IsLast asked name answer old new → IsLast asked name result old new
  last_at answer result is last = subst (λ r. IsLast asked name r old new) (sym is) last

  -- a call on the folder
  pub last_of : (done : Result T Fault) (result : Result T SiteErr) (before now : ℕ) → IsCounted before now done result → IsKept asked name done old new → IsLast asked name result old new
  last_of (Ok x) result before now counted kept = last_at (Ok x) result counted.0 kept
  last_of (Err Memory) result before now counted kept = last_at (Err OutOfMemory) result counted.0 kept
  last_of (Err (Disk e)) result before now counted kept = last_at (Err DiskFailed) result counted.0
      (kept.0, kept.1, kept.2)

  -- the output failed
  pub last_told : (done : Result T Fault) → IsErr done → IfErr done (λ fault. fault ≢ Memory) → IsKept asked name done old new → IsLast {T = T} asked name (Err TellFailed) old new
  last_told (Ok x) err disk kept = cc err
  last_told (Err Memory) err disk kept = absurd (disk refl)
  last_told (Err (Disk e)) err disk kept = (kept.0, kept.1, kept.2)

-- what is so wherever the system failed is so at `DiskFailed`
pub stops_of : {T : Type 0} (P : Type 0) (done : Result T Fault) (result : Result T SiteErr) (before now : ℕ) → IsCounted before now done result → IfErr done (λ fault. fault ≢ Memory → P) → IsErrOf result DiskFailed → P
stops_of P (Ok x) result before now counted fails disk = let is = counted.0 in cc
stops_of P (Err Memory) result before now counted fails disk = let is = counted.0 in cc
stops_of P (Err (Disk e)) result before now counted fails disk = fails (λ is. cc)
