-- What the failures of the calls below are here.
use Rattle.std.specs.Prelude.{ℕ, List, codes}
use Rattle.bl_site.specs.declared.site.SiteErr.{SiteErr}
use Rattle.bl_site.specs.declared.site.SiteErr.TheVariants as site
use Rattle.bl_records.specs.declared.error.RecordErr.{RecordErr}
use Rattle.bl_records.specs.declared.error.RecordErr.TheVariants as records
use Rattle.bl_main.specs.declared.error.LookErr.{LookErr}
use Rattle.bl_main.specs.declared.error.LookErr.TheVariants.{Disk, OutOfMemory}

-- of a call of the site; reading tells nothing, so that `TellFailed` does not come
abbrev pub of_site : SiteErr → LookErr
of_site site.DiskFailed = Disk
of_site site.TellFailed = Disk
of_site site.OutOfMemory = OutOfMemory

-- of a call of a reader of records
abbrev pub of_records : RecordErr → LookErr
of_records records.Disk = Disk
of_records records.OutOfMemory = OutOfMemory

-- how it is said
abbrev pub words_of : LookErr → List ℕ
words_of Disk = codes "the folder could not be read"
words_of OutOfMemory = codes "memory ran out"
