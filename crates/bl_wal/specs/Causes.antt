-- What a failed call on records is here.
use Rattle.std.specs.Prelude.{◌≡◌, ◌⊎◌, ℕ, Result, Ok, Err}
use Rattle.bl_site.specs.Causes.{one_more}
use Rattle.bl_records.specs.declared.error.RecordErr.{RecordErr}
use Rattle.bl_records.specs.declared.error.RecordErr.TheVariants as record_err
use Rattle.bl_wal.specs.declared.error.WalErr.{WalErr}
use Rattle.bl_wal.specs.declared.error.WalErr.TheVariants.{Disk, OutOfMemory}

abbrev pub error_of : RecordErr → WalErr
error_of record_err.Disk = Disk
error_of record_err.OutOfMemory = OutOfMemory

-- the folder was asked once; where memory ran out, perhaps not
abbrev pub ChangesOnce : {T : Type 0} → Result T WalErr → ℕ → ℕ → Type 0
ChangesOnce (Ok x) before now = now ≡ one_more before
ChangesOnce (Err OutOfMemory) before now = (now ≡ one_more before) ⊎ (now ≡ before)
ChangesOnce (Err e) before now = now ≡ one_more before
