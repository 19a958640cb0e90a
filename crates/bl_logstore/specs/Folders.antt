-- Folders that hold logs alone, of the files that a store has.
use Rattle.std.specs.Prelude.{◌≡◌, ◌⊎◌, ℕ, ◌-◌, ◌<◌, ◌≤◌, Bool, true, false, List, IsSome}
use Rattle.bl_code.specs.Order.{bytes_lt}
use Rattle.bl_site.specs.Disk.{Name, Folder}
use Rattle.bl_names.specs.declared.name.FileName.{FileName}
use Rattle.bl_names.specs.declared.name.FileName.TheVariants.{Current, Manifest, Log, Table, Blob, Temp}
use Rattle.bl_names.specs.Names.{IsNumber, IsNameOf}
use Rattle.bl_entry.specs.Batches.{Batch}
use Rattle.bl_entry.specs.Revisions.{Map, revisions_of, IsMapAt}
use Rattle.bl_wal.specs.LogFile.{log_name}
use Rattle.bl_logstore.specs.Logs.{HaveBatches}

abbrev pub is_log : FileName → Bool
is_log (Log number) = true
is_log Current = false
is_log (Manifest number) = false
is_log (Table number) = false
is_log (Blob number) = false
is_log (Temp number) = false

-- a name of a store that is no log's: CURRENT, a manifest, a table, a blob file, or a text on its way to be CURRENT
pub record IsOther (name : Name) : Type 0 where
  pub file : FileName
  pub named : IsNameOf name file
  pub not_log : is_log file ≡ false

-- no such name is there; names that are none of a store's do not matter
abbrev pub HasOnlyLogs : Folder → Type 0
HasOnlyLogs folder = (name : Name) → IsSome (folder name) → IsOther name → ⊥

-- the first such name, in the order of bytes
pub record IsFirstOther (name : Name) (folder : Folder) : Type 0 where
  pub there : IsSome (folder name)
  pub other : IsOther name
  pub first : (before : Name) → IsSome (folder before) → IsOther before → bytes_lt before name ≡ false

-- a folder of logs that hold these batches
pub record Stands (folder : Folder) (batches : List Batch) (last : ℕ) : Type 0 where
  pub only : HasOnlyLogs folder
  pub have : HaveBatches folder batches last

-- a folder of logs that make this map: at each key it has what the write of greatest sequence put there
pub record LogStands (folder : Folder) (m : Map) : Type 0 where
  pub batches : List Batch
  pub last : ℕ
  pub stands : Stands folder batches last
  pub map_is : IsMapAt (revisions_of batches) last m

-- the number of the log that is made next: one more than the greatest of the logs, and at least 2
pub record IsNext (folder : Folder) (number : ℕ) : Type 0 where
  pub above : (other : ℕ) → IsNumber other → IsSome (folder (log_name other)) → other < number
  pub at_least : 2 ≤ number
  pub least : (number ≡ 2) ⊎ (IsNumber (number - 1) × IsSome (folder (log_name (number - 1))))
