-- What many calls share that are given a site: what they leave alone, and what their errors say of it.
-- Each record takes the members of the site, as in `OnlyReads S.Site`.
use Rattle.std.specs.Prelude.{◌≡◌, ◌≤◌, Result, IsErrOf}
use Rattle.bl_site.specs.Disk.{Name, MayLeave}
use Rattle.bl_site.specs.Calls.{KeepsDisk, FollowsFile, StandsStill, Elapses}
use Rattle.bl_site.specs.Causes.{Rose}
use Rattle.bl_site.specs.declared.site.Site.{Ghosts}

-- The folder was only read, and nothing was told: a cut meanwhile finds what one before might have found.
-- The counts of the output's failures and of the calls that change something stay; that of the disk's failures does not fall.
pub record OnlyReads {S : Type 0} (g : Ghosts S) (old new : S) : Type 0 where
  pub stays : g.shows → KeepsDisk g.disk g.may_be g.certain old new
  pub told : g.shows → g.told new ≡ g.told old
  pub time : g.shows → Elapses (g.clock old) (g.clock new) (g.left_since old) (g.left_since new) (MayLeave (g.may_be old) (g.told old))
  pub later : g.disk_faults old ≤ g.disk_faults new
  pub tell_faults : g.tell_faults new ≡ g.tell_faults old
  pub changes : g.changes new ≡ g.changes old

-- Nothing was told. The count of the output's failures stays, and that of the disk's does not fall.
pub record TellsNothing {S : Type 0} (g : Ghosts S) (old new : S) : Type 0 where
  pub told : g.shows → g.told new ≡ g.told old
  pub later : g.disk_faults old ≤ g.disk_faults new
  pub tell_faults : g.tell_faults new ≡ g.tell_faults old

-- Why a call fails whose errors are of another type than the site's: `disk` comes only where the count of the disk's failures rose,
-- and at `memory`, want of memory, that count stays.
pub record HasCauses {S T E : Type 0} (g : Ghosts S) (disk memory : E) (result : Result T E) (old new : S) : Type 0 where
  pub failed : IsErrOf result disk → Rose (g.disk_faults old) (g.disk_faults new)
  pub no_fault : IsErrOf result memory → g.disk_faults new ≡ g.disk_faults old

-- What a call that appends to this file, or syncs it, leaves of the disks that there may be, and what a cut during it may leave.
-- At `memory`, want of memory, the files are as before, and no moment has gone by.
pub record TouchesFile {S T E : Type 0} (g : Ghosts S) (name : Name) (memory : E) (result : Result T E) (old new : S) : Type 0 where
  pub keeps : g.shows → IsErrOf result memory → KeepsDisk g.disk g.may_be g.certain old new
  pub certain : g.shows → g.certain old → g.certain new
  pub doubt : g.shows → FollowsFile name (g.disk old) (g.disk new) (g.may_be old) (g.may_be new)
  pub time : g.shows → Elapses (g.clock old) (g.clock new) (g.left_since old) (g.left_since new) (MayLeave (g.may_be new) (g.told new))
  pub still : g.shows → IsErrOf result memory → StandsStill g.clock g.left_since old new
