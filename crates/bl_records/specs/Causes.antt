-- What a failed call of a site is here, and how often the folder was asked.
use Rattle.std.specs.Prelude.{◌≡◌, ℕ, ◌+◌, ◌-◌, ◌≤◌, ◌^◌, min, ◌⊎◌, Bool, true, false, Result, IsErrOf, OnErr, OnOk}
use Rattle.bl_site.specs.declared.site.Site.{Ghosts}
use Rattle.bl_site.specs.declared.site.SiteErr.{SiteErr}
use Rattle.bl_site.specs.declared.site.SiteErr.TheVariants as site
use Rattle.bl_records.specs.declared.error.RecordErr.{RecordErr}
use Rattle.bl_records.specs.declared.error.RecordErr.TheVariants.{Disk, OutOfMemory}

abbrev pub error_of : SiteErr → RecordErr
error_of site.DiskFailed = Disk
error_of site.TellFailed = Disk
error_of site.OutOfMemory = OutOfMemory

-- a call that writes fails by the disk or for want of memory
abbrev pub IsCause : {E : Type 0} → E → E → E → Type 0
IsCause disk memory e = (e ≡ disk) ⊎ (e ≡ memory)

-- a count behind so many calls more; it stops at 2 ^ 64 - 1
abbrev pub more : ℕ → ℕ → ℕ
more calls count = min (count + calls) (2 ^ 64 - 1)

-- the folder was asked, at most so many times
abbrev pub AsksUpTo : ℕ → ℕ → ℕ → Type 0
AsksUpTo most before now = (calls : ℕ) × (1 ≤ calls) × (calls ≤ most) × (now ≡ more calls before)

-- A call that may ask the folder so many times: at Ok it did. Whether it has failed is told: it has after `disk`, and only once the
-- folder was asked. After any other failure nothing has changed.
pub record FailsOnceAsked {S W T E : Type 0} (g : Ghosts S) (most : ℕ) (disk : E) (result : Result T E) (failed : Bool) (was now : W) (old new : S) : Type 0 where
  pub disk_fails : IsErrOf result disk → failed ≡ true
  pub asked_fails : failed ≡ true → AsksUpTo most (g.changes old) (g.changes new)
  pub stays : OnErr result (failed ≡ false → (now ≡ was) × (new ≡ old))
  pub asked : OnOk result (g.changes new ≡ more most (g.changes old))
