-- The last failure that is kept.
use Rattle.std.specs.Prelude.{◌≡◌, ◌⊎◌, [], Option, Some, Result, Ok, Err}
use Rattle.std.specs.String.{string_bytes}
use Rattle.bl_site.specs.Disk.{Name}
use Rattle.bl_site.specs.declared.site.SiteErr.{SiteErr}
use Rattle.bl_site.specs.declared.site.SiteErr.TheVariants.{OutOfMemory}
use Rattle.bl_site_host.specs.declared.faults.Fault.{Fault}
use Rattle.bl_site_host.specs.declared.faults.Fault.TheVariants.{Disk, Memory}
use Rattle.bl_site_host.specs.declared.failure.Asked.{Asked}
use Rattle.bl_site_host.specs.declared.failure.Failure.{Failure}

-- the failure of this call, for this name; where there was no memory for the name, it is empty
pub record IsFailureOf (asked : Asked) (name : Name) (failure : Failure) : Type 0 where
  pub asked_is : failure.asked ≡ asked
  pub name_is : (string_bytes failure.name ≡ name) ⊎ (string_bytes failure.name ≡ [])

-- where the system failed, the last failure is this call's, with the system's error; for want of memory it is as before
abbrev pub IsPut : Asked → Name → Fault → (old new : Option Failure) → Type 0
IsPut asked name Memory old new = new ≡ old
IsPut asked name (Disk error) old new = (failure : Failure) × (new ≡ Some failure) × IsFailureOf asked name failure × (failure.error ≡ error)

-- so it is after a call that failed, and a call that succeeded leaves it as before
abbrev pub IsKept : {T : Type 0} → Asked → Name → Result T Fault → (old new : Option Failure) → Type 0
IsKept asked name (Ok _) old new = new ≡ old
IsKept asked name (Err fault) old new = IsPut asked name fault old new

-- the same of a call of the site, whose answer does not have the system's error
abbrev pub IsLast : {T : Type 0} → Asked → Name → Result T SiteErr → (old new : Option Failure) → Type 0
IsLast asked name (Ok _) old new = new ≡ old
IsLast asked name (Err OutOfMemory) old new = new ≡ old
IsLast asked name (Err _) old new = (failure : Failure) × (new ≡ Some failure) × IsFailureOf asked name failure
