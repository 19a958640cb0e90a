-- Why a file was not read, and what is told of it.
use Rattle.std.specs.Prelude.{◌≡◌, ◌⊎◌}
use Rattle.bl_site.specs.Disk.{Name}
use Rattle.bl_site.specs.declared.site.SiteErr.{SiteErr}
use Rattle.bl_site.specs.declared.site.SiteErr.TheVariants as site
use Rattle.bl_entry.specs.declared.run.RunErr.{RunErr}
use Rattle.bl_entry.specs.declared.run.RunErr.TheVariants.{Disk, Corrupt, OutOfMemory}
use Rattle.bl_cache.specs.declared.fault.Unread.{Unread}
use Rattle.bl_cache.specs.declared.fault.Unread.TheVariants as unread

-- what a failed call of a site is here
abbrev pub of_site : SiteErr → Unread
of_site site.DiskFailed = unread.Disk
of_site site.TellFailed = unread.Disk
of_site site.OutOfMemory = unread.OutOfMemory

-- what is told of the file of this name, unless memory runs out
abbrev pub Tells : Unread → Name → RunErr → Type 0
Tells unread.Disk name e = e ≡ Disk
Tells (unread.Damaged place) name e = (e ≡ Corrupt name place) ⊎ (e ≡ OutOfMemory)
Tells unread.OutOfMemory name e = e ≡ OutOfMemory
