-- Why a call of an output is refused.
use Rattle.std.specs.Prelude.{◌≡◌, ◌⊎◌, ◌^◌}
use Rattle.bl_site.specs.declared.site.SiteErr.{SiteErr}
use Rattle.bl_site.specs.declared.site.SiteErr.TheVariants as site
use Rattle.bl_out.specs.declared.error.JobErr.{JobErr}
use Rattle.bl_out.specs.declared.error.JobErr.TheVariants.{Disk, Full, OutOfMemory}

-- what a failed call of a site is here
abbrev pub error_of : SiteErr → JobErr
error_of site.DiskFailed = Disk
error_of site.TellFailed = Disk
error_of site.OutOfMemory = OutOfMemory

-- the folder failed, no number is left, or memory ran out
abbrev pub IsAddCause : JobErr → Type 0
IsAddCause e = (e ≡ Disk) ⊎ ((e ≡ Full (10 ^ 15)) ⊎ (e ≡ OutOfMemory))

-- the folder failed, or memory ran out
abbrev pub IsSealCause : JobErr → Type 0
IsSealCause e = (e ≡ Disk) ⊎ (e ≡ OutOfMemory)
