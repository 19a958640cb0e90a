-- A replay on its way from log to log.
use Rattle.std.specs.Prelude.{◌≡◌, ◌⊎◌, ℕ, ◌<◌, ◌^◌, List, [], ◌∷◌, Some, None, IsSome}
use Rattle.std.specs.FinMap.{insert, remove, empty}
use Rattle.bl_site.specs.Disk.{Folder, Disk, folder_of}
use Rattle.bl_entry.specs.Batches.{Batch}
use Rattle.bl_entry.specs.Records.{batches_of}
use Rattle.bl_entry.specs.Revisions.{Map}
use Rattle.bl_entry.specs.declared.key.Kind.{Kind}
use Rattle.bl_entry.specs.declared.key.Kind.TheVariants.{Deletion, Value, BlobRef}
use Rattle.bl_entry.specs.declared.key.Entry.{Entry}
use Rattle.bl_names.specs.Names.{IsNumber}
use Rattle.bl_wal.specs.LogFile.{log_name}
use Rattle.bl_logstore.specs.Logs.{records_up_to, after_batches}
use Rattle.bl_logstore.specs.Folders.{HasOnlyLogs}
use Rattle.bl_logstore.specs.Stored.{IsSynced}

-- what an entry of a batch does to a map; a batch has no blob index
abbrev pub after_kind : Kind → List ℕ → List ℕ → Map → Map
after_kind Deletion key value m = remove m key
after_kind Value key value m = insert m key value
after_kind BlobRef key value m = m

unfoldable pub after_entries : List Entry → Map → Map
after_entries [] m = m
after_entries (e ∷ more) m = after_entries more (after_kind e.key.kind e.key.user e.value m)

-- the logs up to this number were replayed
pub record HasReplayed (folder : Folder) (number : ℕ) (now : Map) (last : ℕ) : Type 0 where
  pub batches : List Batch
  pub are : batches_of (records_up_to number folder) 0 ≡ Some (batches, last)
  pub now_is : now ≡ after_batches batches empty

-- all logs were replayed, the greatest of which has this number, if there is one
pub record HasAll (folder : Folder) (now : Map) (last greatest : ℕ) : Type 0 where
  pub batches : List Batch
  pub are : batches_of (records_up_to greatest folder) 0 ≡ Some (batches, last)
  pub now_is : now ≡ after_batches batches empty
  pub above : (number : ℕ) → greatest < number → number < 10 ^ 15 → folder (log_name number) ≡ None
  pub there : (greatest ≡ 0) ⊎ (IsNumber greatest × IsSome (folder (log_name greatest)))

-- the logs of a folder were synced and replayed
pub record WasRead (folder : Folder) (disk : Disk) (now : Map) (last greatest : ℕ) : Type 0 where
  pub only : HasOnlyLogs folder
  pub same : folder_of disk ≡ folder
  pub all : HasAll folder now last greatest
  pub synced : (number : ℕ) → IsNumber number → IsSynced (disk (log_name number))
