-- What an opening leaves of the files that it found.
use Rattle.std.specs.Prelude.{◌≡◌, ◌≢◌, ℕ, ◌≤◌, Result, OnOk}
use Rattle.bl_site.specs.Disk.{Disk, Folder, Name, folder_of}
use Rattle.bl_names.specs.declared.name.FileName.{FileName}
use Rattle.bl_names.specs.declared.name.FileName.TheVariants.{Current}
use Rattle.bl_names.specs.Names.{HasNumber, IsNumber, manifest_name, name_of}
use Rattle.bl_wal.specs.LogFile.{log_name}
use Rattle.bl_folder.specs.Numbers.{number_of}
use Rattle.bl_open.specs.Barrier.{IsBehindAll}
use Rattle.bl_open.specs.declared.error.OpenErr.{OpenErr}

-- no log and no manifest has the name
abbrev pub IsNoLogOrManifest : Name → Type 0
IsNoLogOrManifest name = (n : ℕ) → IsNumber n → (name ≢ log_name n) × (name ≢ manifest_name n)

-- no other file has changed than logs and manifests
abbrev pub KeepsAllButLogs : Disk → Disk → Type 0
KeepsAllButLogs old new = (name : Name) → IsNoLogOrManifest name → new name ≡ old name

-- neither CURRENT has the name, nor a file of the store's forms with this number or one above it
pub record IsBefore (from : ℕ) (name : Name) : Type 0 where
  pub no_current : name ≢ name_of Current
  pub no_number : (f : FileName) → HasNumber f → from ≤ number_of f → name ≢ name_of f

-- every such name stands for what it stood for
abbrev pub KeepsBefore : ℕ → Disk → Disk → Type 0
KeepsBefore from old new = (name : Name) → IsBefore from name → new name ≡ old name

-- neither CURRENT has the name, nor a file of the store's forms whose number is above those of all files of the folder
pub record IsOld (folder : Folder) (name : Name) : Type 0 where
  pub no_current : name ≢ name_of Current
  pub no_new : (f : FileName) → HasNumber f → IsBehindAll folder (number_of f) → name ≢ name_of f

-- Every such name that is none of a log or of a manifest stands for what it stood for. At `Ok` logs and manifests of such names read as they did.
pub record KeepsFound {T : Type 0} (result : Result T OpenErr) (old new : Disk) : Type 0 where
  pub files : (name : Name) → IsOld (folder_of old) name → IsNoLogOrManifest name → new name ≡ old name
  pub reads : OnOk result ((name : Name) → IsOld (folder_of old) name → folder_of new name ≡ folder_of old name)
