-- Why a call of a store fails.
use Rattle.bl_site.specs.declared.site.SiteErr.{SiteErr}
use Rattle.bl_site.specs.declared.site.SiteErr.TheVariants as site
use Rattle.bl_wal.specs.declared.error.WalErr.{WalErr}
use Rattle.bl_wal.specs.declared.error.WalErr.TheVariants as wal
use Rattle.bl_logstore.specs.declared.error.StoreErr.{StoreErr}
use Rattle.bl_logstore.specs.declared.error.StoreErr.TheVariants.{Disk, OutOfMemory, Corrupt, Full, Broken}

abbrev pub error_of : SiteErr → StoreErr
error_of site.DiskFailed = Disk
error_of site.TellFailed = Disk
error_of site.OutOfMemory = OutOfMemory

abbrev pub error_of_log : WalErr → StoreErr
error_of_log wal.Disk = Disk
error_of_log (wal.Corrupt name place) = Corrupt name place
error_of_log wal.OutOfMemory = OutOfMemory

-- how an opening may fail
abbrev pub IsOpening : StoreErr → Type 0
IsOpening Disk = Unit {0}
IsOpening OutOfMemory = Unit {0}
IsOpening (Corrupt name place) = Unit {0}
IsOpening (Full number) = Unit {0}
IsOpening Broken = ⊥

-- how a write may fail
abbrev pub IsWriting : StoreErr → Type 0
IsWriting Disk = Unit {0}
IsWriting OutOfMemory = Unit {0}
IsWriting (Corrupt name place) = ⊥
IsWriting (Full number) = Unit {0}
IsWriting Broken = Unit {0}

-- a failure after which nothing was written: an opening may have listed, synced and read, a write and a sync have asked the folder for nothing
abbrev pub IsUntouched : StoreErr → Type 0
IsUntouched Disk = ⊥
IsUntouched OutOfMemory = ⊥
IsUntouched (Corrupt name place) = Unit {0}
IsUntouched (Full number) = Unit {0}
IsUntouched Broken = Unit {0}

-- how a sync of logs may fail
abbrev pub IsSyncing : StoreErr → Type 0
IsSyncing Disk = Unit {0}
IsSyncing OutOfMemory = Unit {0}
IsSyncing (Corrupt name place) = ⊥
IsSyncing (Full number) = ⊥
IsSyncing Broken = ⊥

-- how a replay may fail
abbrev pub IsReading : StoreErr → Type 0
IsReading Disk = Unit {0}
IsReading OutOfMemory = Unit {0}
IsReading (Corrupt name place) = Unit {0}
IsReading (Full number) = ⊥
IsReading Broken = ⊥

-- how a sync of the log in use may fail
abbrev pub IsEnding : StoreErr → Type 0
IsEnding Disk = Unit {0}
IsEnding OutOfMemory = Unit {0}
IsEnding (Corrupt name place) = ⊥
IsEnding (Full number) = ⊥
IsEnding Broken = Unit {0}
