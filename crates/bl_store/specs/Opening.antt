-- What an opening of a store answers, and what it begins with.
use Rattle.std.specs.Prelude.{◌≡◌, ◌⊎◌, false, [], None, Result, Ok, Err, OnOk}
use Rattle.bl_site.specs.Disk.{Disk, Folder, Name, folder_of}
use Rattle.bl_wal.specs.LogFile.{new_log}
use Rattle.bl_open.specs.Keeping.{IsNoLogOrManifest, IsOld}
use Rattle.bl_open.specs.Options.{Words}
use Rattle.bl_open.specs.Recovering.{IsRefusal, IsRefused}
use Rattle.bl_open.specs.declared.begin.Opened.{Opened}
use Rattle.bl_open.specs.declared.error.OpenErr.{OpenErr}
use Rattle.bl_store.specs.Causes.{of_opening}
use Rattle.bl_store.specs.Stored.{Stored}
use Rattle.bl_store.specs.declared.error.StoreErr.{StoreErr}
use Rattle.bl_store.specs.declared.error.StoreErr.TheVariants.{Disk as DiskFailed, OutOfMemory}

-- what a store has of the folder that was opened
abbrev pub opened_of : Stored → Opened
opened_of s = record { version = s.version; standing = s.standing; manifest = s.manifest; wal = s.log }

-- A store that begins: its log is new, its next number for a file follows the last one drawn, no entry is in memory and none waits, and no call has failed.
pub record IsBegun (s : Stored) : Type 0 where
  pub log : s.log ≡ new_log s.standing.log_number
  pub next : s.next ≡ s.standing.next_file
  pub last : s.last ≡ s.standing.last_sequence
  pub memory : s.memory ≡ []
  pub waiting : s.waiting ≡ None
  pub broken : s.broken ≡ false

-- this is answered, unless the disk failed or memory ran out
abbrev pub AnswersOnly : {T : Type 0} → StoreErr → Result T StoreErr → Type 0
AnswersOnly e (Ok x) = ⊥
AnswersOnly e (Err f) = (f ≡ e) ⊎ ((f ≡ DiskFailed) ⊎ (f ≡ OutOfMemory))

-- Corrupt and Differ are answered exactly where the opening is refused so, unless the disk failed or memory ran out.
pub record AnswersAsRefused {T : Type 0} (folder : Folder) (words : Words) (result : Result T StoreErr) : Type 0 where
  pub only : (e : OpenErr) → result ≡ Err (of_opening e) → IsRefusal e → IsRefused folder words e
  pub due : (e : OpenErr) → IsRefused folder words e → AnswersOnly (of_opening e) result

-- Each name but CURRENT, logs, manifests and those of new numbers keeps its file. At Ok the logs and manifests found read as they did.
pub record KeepsFound {T : Type 0} (result : Result T StoreErr) (old new : Disk) : Type 0 where
  pub files : (name : Name) → IsOld (folder_of old) name → IsNoLogOrManifest name → new name ≡ old name
  pub reads : OnOk result ((name : Name) → IsOld (folder_of old) name → folder_of new name ≡ folder_of old name)
