-- Why a call of a store fails.
use Rattle.std.specs.Prelude.{◌≡◌, ◌⊎◌, ℕ, ◌^◌}
use Rattle.bl_wal.specs.declared.error.WalErr.{WalErr}
use Rattle.bl_wal.specs.declared.error.WalErr.TheVariants as wal
use Rattle.bl_entry.specs.declared.run.RunErr.{RunErr}
use Rattle.bl_entry.specs.declared.run.RunErr.TheVariants as run
use Rattle.bl_manifest.specs.declared.error.ManifestErr.{ManifestErr}
use Rattle.bl_manifest.specs.declared.error.ManifestErr.TheVariants as manifest
use Rattle.bl_out.specs.declared.error.JobErr.{JobErr}
use Rattle.bl_out.specs.declared.error.JobErr.TheVariants as job
use Rattle.bl_open.specs.declared.error.OpenErr.{OpenErr}
use Rattle.bl_open.specs.declared.error.OpenErr.TheVariants as opening
use Rattle.bl_store.specs.declared.error.StoreErr.{StoreErr}
use Rattle.bl_store.specs.declared.error.StoreErr.TheVariants.{Disk, OutOfMemory, Corrupt, Full, Broken, Differ}

abbrev pub of_log : WalErr → StoreErr
of_log wal.Disk = Disk
of_log (wal.Corrupt name place) = Corrupt name place
of_log wal.OutOfMemory = OutOfMemory

abbrev pub of_manifest : ManifestErr → StoreErr
of_manifest manifest.Disk = Disk
of_manifest (manifest.Corrupt name place) = Corrupt name place
of_manifest manifest.OutOfMemory = OutOfMemory

abbrev pub of_run : RunErr → StoreErr
of_run run.Disk = Disk
of_run (run.Corrupt name place) = Corrupt name place
of_run run.OutOfMemory = OutOfMemory

abbrev pub of_job : JobErr → StoreErr
of_job job.Disk = Disk
of_job (job.Corrupt name place) = Corrupt name place
of_job (job.Full next) = Full next
of_job job.OutOfMemory = OutOfMemory

abbrev pub of_opening : OpenErr → StoreErr
of_opening opening.Disk = Disk
of_opening (opening.Corrupt name place) = Corrupt name place
of_opening (opening.Full next) = Full next
of_opening (opening.Differ option stored asked) = Differ option stored asked
of_opening opening.OutOfMemory = OutOfMemory

-- how an opening may fail
abbrev pub IsOpening : StoreErr → Type 0
IsOpening e = (o : OpenErr) × (e ≡ of_opening o)

-- how a sync may fail
abbrev pub IsSyncing : StoreErr → Type 0
IsSyncing e = (e ≡ Disk) ⊎ (e ≡ OutOfMemory)

-- how a call may fail that makes files
abbrev pub IsMaking : StoreErr → Type 0
IsMaking e = (e ≡ Disk) ⊎ ((e ≡ OutOfMemory) ⊎ (e ≡ Full (10 ^ 15)))

-- how a write may fail: also by a limit of its own, of sequences
abbrev pub IsWriting : StoreErr → Type 0
IsWriting e = (e ≡ Disk) ⊎ ((e ≡ OutOfMemory) ⊎ ((n : ℕ) × (e ≡ Full n)))

-- how a writing call may fail: it finds the store broken, or fails so
abbrev pub OrBroken : (StoreErr → Type 0) → StoreErr → Type 0
OrBroken IsCause e = (e ≡ Broken) ⊎ IsCause e
