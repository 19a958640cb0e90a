-- What a store is once its folder was opened again.
use Rattle.std.specs.Prelude.{◌≡◌, ◌⊎◌, ℕ, ◌^◌, true, false, None, Result, Ok, Err}
use Rattle.bl_site.specs.Disk.{Name}
use Rattle.bl_open.specs.Options.{Words}
use Rattle.bl_store.specs.Stored.{Stored}
use Rattle.bl_store.specs.declared.error.StoreErr.{StoreErr}
use Rattle.bl_store.specs.declared.error.StoreErr.TheVariants.{Disk, OutOfMemory, Corrupt, Full}

-- no word is given: each option keeps its stored value
abbrev pub no_words : Words
no_words = record {
  min_blob_size = None;
  blob_file_size = None;
  write_buffer = None;
  table_size = None;
  level0_trigger = None;
  level_base = None;
  level_factor = None;
  age_cutoff = None;
  force_threshold = None;
}

-- no call of its log or of its manifest has failed
pub record IsUnfailed (s : Stored) : Type 0 where
  pub log : s.log.failed ≡ false
  pub manifest : s.manifest.failed ≡ false

-- It has the options and the last sequence that it had.
pub record HasReopened (old new : Stored) : Type 0 where
  pub options : new.standing.options ≡ old.standing.options
  pub last : new.last ≡ old.last

-- A store takes the place of the old one where one was opened; else the old one is broken.
abbrev pub HandsOver : Result Stored StoreErr → Result (Unit {0}) StoreErr → Stored → Stored → Type 0
HandsOver (Ok opened) result old new = (result ≡ Ok tt) × (new ≡ opened)
HandsOver (Err e) result old new = (result ≡ Err e) × (new ≡ record old { broken = true })

-- how a reopening may fail
abbrev pub IsReopening : StoreErr → Type 0
IsReopening e = (e ≡ Disk) ⊎ ((e ≡ OutOfMemory) ⊎ ((e ≡ Full (10 ^ 15)) ⊎ ((name : Name) × ((place : ℕ) × (e ≡ Corrupt name place)))))
