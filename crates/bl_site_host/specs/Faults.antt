-- How a failure of the host is answered and counted.
use Rattle.std.specs.Prelude.{◌≡◌, ℕ, Result, Ok, Err}
use Rattle.std.specs.IoError.{error_kind}
use Rattle.std.specs.declared.io.Error.{Error}
use Rattle.std.specs.declared.io.ErrorKind.{ErrorKind}
use Rattle.std.specs.declared.io.ErrorKind.TheVariants as kind
use Rattle.bl_site.specs.Causes.{one_more}
use Rattle.bl_site.specs.declared.site.SiteErr.{SiteErr}
use Rattle.bl_site.specs.declared.site.SiteErr.TheVariants.{DiskFailed, OutOfMemory}
use Rattle.bl_site_host.specs.declared.faults.Fault.{Fault}
use Rattle.bl_site_host.specs.declared.faults.Fault.TheVariants.{Disk, Memory}

abbrev pub fault_by : ErrorKind → Error → Fault
fault_by kind.OutOfMemory e = Memory
fault_by _ e = Disk e

-- of a failure before anything was changed: want of memory is what the system calls so, and all else is the disk's
abbrev pub fault_of : Error → Fault
fault_of e = fault_by (error_kind e) e

-- a failure of the system is counted, and want of memory is not
abbrev pub IsCounted : {T : Type 0} → ℕ → ℕ → Result T Fault → Result T SiteErr → Type 0
IsCounted before now (Ok x) result = (result ≡ Ok x) × (now ≡ before)
IsCounted before now (Err (Disk e)) result = (result ≡ Err DiskFailed) × (now ≡ one_more before)
IsCounted before now (Err Memory) result = (result ≡ Err OutOfMemory) × (now ≡ before)
