-- How a failed call ends a run.
use Rattle.std.specs.Prelude.{◌≡◌, ◌⊎◌, ℕ, ◌+◌, ◌-◌, ◌^◌, ◌≤◌, min, List, ◌++◌, Result, IfErr, IsErrOf}
use Rattle.bl_site.specs.Causes.{Rose}
use Rattle.bl_site.specs.declared.site.Site.{Ghosts}
use Rattle.bl_site.specs.declared.site.SiteErr.{SiteErr}
use Rattle.bl_site.specs.declared.site.SiteErr.TheVariants as site
use Rattle.bl_logstore.specs.declared.error.StoreErr.{StoreErr}
use Rattle.bl_logstore.specs.declared.error.StoreErr.TheVariants as store
use Rattle.bl_shell.specs.Carried.{TellsFront}
use Rattle.bl_shell.specs.declared.stop.Stop.{Stop}
use Rattle.bl_shell.specs.declared.stop.Stop.TheVariants as stop
use Rattle.bl_shell.specs.declared.status.Status.{Status}
use Rattle.bl_shell.specs.declared.status.Status.TheVariants.{Done, Words, TellFault, DiskFault, OutOfMemory, ReadFault, Long, Corrupt, Full}

abbrev pub stop_of : SiteErr → Stop
stop_of site.DiskFailed = stop.Disk
stop_of site.TellFailed = stop.Tell
stop_of site.OutOfMemory = stop.OutOfMemory

-- a store that is broken was stopped by its disk before
abbrev pub stop_of_store : StoreErr → Stop
stop_of_store store.Disk = stop.Disk
stop_of_store store.OutOfMemory = stop.OutOfMemory
stop_of_store (store.Corrupt name place) = stop.Corrupt name place
stop_of_store (store.Full number) = stop.Full number
stop_of_store store.Broken = stop.Disk

-- the exit status of the program
abbrev pub number_of : Status → ℕ
number_of Done = 0
number_of Words = 2
number_of ReadFault = 3
number_of TellFault = 4
number_of DiskFault = 5
number_of OutOfMemory = 6
number_of Corrupt = 7
number_of Full = 8
number_of Long = 10

-- a stop with no line to tell
abbrev pub IsSilent : Stop → Type 0
IsSilent stop.Read = Unit {0}
IsSilent stop.Tell = Unit {0}
IsSilent stop.Disk = Unit {0}
IsSilent stop.OutOfMemory = Unit {0}
IsSilent stop.Long = Unit {0}
IsSilent (stop.Corrupt name place) = ⊥
IsSilent (stop.Full number) = ⊥

-- a stop inside a line: not for what the script brings
abbrev pub IsNotOfScript : Stop → Type 0
IsNotOfScript stop.Read = ⊥
IsNotOfScript stop.Tell = Unit {0}
IsNotOfScript stop.Disk = Unit {0}
IsNotOfScript stop.OutOfMemory = Unit {0}
IsNotOfScript stop.Long = ⊥
IsNotOfScript (stop.Corrupt name place) = Unit {0}
IsNotOfScript (stop.Full number) = Unit {0}

-- Why an order stops: not for what the script brings; `Disk` comes only where the count of the disk's failures rose, and `Tell` only
-- where that of the output's did. Neither count falls.
pub record HasStopCauses {S T : Type 0} (g : Ghosts S) (result : Result T Stop) (old new : S) : Type 0 where
  pub causes : IfErr result IsNotOfScript
  pub disk : IsErrOf result stop.Disk → Rose (g.disk_faults old) (g.disk_faults new)
  pub tell : IsErrOf result stop.Tell → Rose (g.tell_faults old) (g.tell_faults new)
  pub later : (g.disk_faults old ≤ g.disk_faults new) × (g.tell_faults old ≤ g.tell_faults new)

-- more bytes were taken than the limit, or the count stands where it cannot rise
abbrev pub TookOver : ℕ → ℕ → ℕ → Type 0
TookOver limit before now = min (before + limit + 1) (2 ^ 64 - 1) ≤ now

-- a stop for what the script brings
abbrev pub IsReading : Stop → Type 0
IsReading stop.Read = Unit {0}
IsReading stop.Tell = ⊥
IsReading stop.Disk = ⊥
IsReading stop.OutOfMemory = ⊥
IsReading stop.Long = Unit {0}
IsReading (stop.Corrupt name place) = ⊥
IsReading (stop.Full number) = ⊥

-- how an opening may stop a run, but for a limit
abbrev pub IsOpening : Stop → Type 0
IsOpening stop.Read = ⊥
IsOpening stop.Tell = ⊥
IsOpening stop.Disk = Unit {0}
IsOpening stop.OutOfMemory = Unit {0}
IsOpening stop.Long = ⊥
IsOpening (stop.Corrupt name place) = Unit {0}
IsOpening (stop.Full number) = ⊥

-- the status of a stop, where its line, if it has one, is told
abbrev pub status_of : Stop → Status
status_of stop.Read = ReadFault
status_of stop.Tell = TellFault
status_of stop.Disk = DiskFault
status_of stop.OutOfMemory = OutOfMemory
status_of stop.Long = Long
status_of (stop.Corrupt name place) = Corrupt
status_of (stop.Full number) = Full

-- the status of a run that read its script: to its end, up to a failed read, or up to the limit
abbrev pub IsForScript : Status → Type 0
IsForScript Done = Unit {0}
IsForScript Words = ⊥
IsForScript ReadFault = Unit {0}
IsForScript TellFault = ⊥
IsForScript DiskFault = ⊥
IsForScript OutOfMemory = ⊥
IsForScript Corrupt = ⊥
IsForScript Full = ⊥
IsForScript Long = Unit {0}

-- a stop ends the run with its status; or its line could not be told
abbrev pub MayEnd : Stop → Status → Type 0
MayEnd s status = (status ≡ status_of s) ⊎ ((status ≡ TellFault) ⊎ (status ≡ OutOfMemory))

-- the last line was told, and the status is this one; or a front of it, or nothing
abbrev pub EndsAs : Status → Status → List ℕ → List ℕ → List ℕ → Type 0
EndsAs meant status line told told_after =
    ((status ≡ meant) × (told_after ≡ told ++ line)) ⊎ ((status ≡ TellFault) × TellsFront line told told_after) ⊎ ((status ≡ OutOfMemory) × (told_after ≡ told))

-- how a run over a damaged folder may end
abbrev pub IsOfDamaged : Status → Type 0
IsOfDamaged s = (s ≡ Corrupt) ⊎ (s ≡ DiskFault) ⊎ (s ≡ TellFault) ⊎ (s ≡ OutOfMemory)
