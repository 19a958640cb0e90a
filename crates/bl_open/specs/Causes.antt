-- What a failed call of a crate below is here, and why a call fails.
use Rattle.std.specs.Prelude.{◌≡◌, ◌⊎◌, ◌^◌, Result, IfErr, IsErrOf}
use Rattle.bl_site.specs.Causes.{Rose}
use Rattle.bl_site.specs.declared.site.Site.{Ghosts}
use Rattle.bl_site.specs.declared.site.SiteErr.{SiteErr}
use Rattle.bl_site.specs.declared.site.SiteErr.TheVariants as site
use Rattle.bl_records.specs.Causes.{IsCause}
use Rattle.bl_records.specs.declared.error.RecordErr.{RecordErr}
use Rattle.bl_records.specs.declared.error.RecordErr.TheVariants as record_err
use Rattle.bl_wal.specs.declared.error.WalErr.{WalErr}
use Rattle.bl_wal.specs.declared.error.WalErr.TheVariants as wal
use Rattle.bl_manifest.specs.declared.error.ManifestErr.{ManifestErr}
use Rattle.bl_manifest.specs.declared.error.ManifestErr.TheVariants as manifest
use Rattle.bl_out.specs.declared.error.JobErr.{JobErr}
use Rattle.bl_out.specs.declared.error.JobErr.TheVariants as job
use Rattle.bl_open.specs.declared.error.OpenErr.{OpenErr}
use Rattle.bl_open.specs.declared.error.OpenErr.TheVariants.{Disk, Corrupt, Full, OutOfMemory}

abbrev pub of_site : SiteErr → OpenErr
of_site site.DiskFailed = Disk
of_site site.TellFailed = Disk
of_site site.OutOfMemory = OutOfMemory

abbrev pub of_records : RecordErr → OpenErr
of_records record_err.Disk = Disk
of_records record_err.OutOfMemory = OutOfMemory

abbrev pub of_wal : WalErr → OpenErr
of_wal wal.Disk = Disk
of_wal (wal.Corrupt name place) = Corrupt name place
of_wal wal.OutOfMemory = OutOfMemory

abbrev pub of_manifest : ManifestErr → OpenErr
of_manifest manifest.Disk = Disk
of_manifest (manifest.Corrupt name place) = Corrupt name place
of_manifest manifest.OutOfMemory = OutOfMemory

abbrev pub of_job : JobErr → OpenErr
of_job job.Disk = Disk
of_job (job.Corrupt name place) = Corrupt name place
of_job (job.Full next) = Full next
of_job job.OutOfMemory = OutOfMemory

-- Why a call fails that reads nothing: by the folder, only where the count of its failures rose, or for want of memory.
pub record FailsByFolder {S T : Type 0} (g : Ghosts S) (result : Result T OpenErr) (old new : S) : Type 0 where
  pub causes : IfErr result (IsCause Disk OutOfMemory)
  pub disk : IsErrOf result Disk → Rose (g.disk_faults old) (g.disk_faults new)

-- the disk failed, no number is left, or memory ran out
abbrev pub IsWriting : OpenErr → Type 0
IsWriting e = (e ≡ Disk) ⊎ ((e ≡ Full (10 ^ 15)) ⊎ (e ≡ OutOfMemory))
