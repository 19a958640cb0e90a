-- Why a folder is refused, and where.
use Rattle.std.specs.Prelude.{◌≡◌, ◌⊎◌, ℕ, ◌-◌, List, Some}
use Rattle.bl_site.specs.Disk.{Name, Folder}
use Rattle.bl_names.specs.Names.{IsNumber}
use Rattle.bl_entry.specs.Batches.{Batch}
use Rattle.bl_entry.specs.Records.{batches_of}
use Rattle.bl_wal.specs.LogFile.{log_name}
use Rattle.bl_wal.specs.Replay.{BreaksOff}
use Rattle.bl_logstore.specs.Logs.{records_up_to}
use Rattle.bl_logstore.specs.Folders.{HasOnlyLogs, IsFirstOther}

-- the logs below this one hold batches, and this one has, before the place, a record that is no batch or does not begin behind the last sequence
pub record BreaksAt (folder : Folder) (number place : ℕ) : Type 0 where
  pub is_number : IsNumber number
  pub bytes : List ℕ
  pub there : folder (log_name number) ≡ Some bytes
  pub batches : List Batch
  pub last : ℕ
  pub below : batches_of (records_up_to (number - 1) folder) 0 ≡ Some (batches, last)
  pub breaks : BreaksOff bytes last place

-- The first fault of a folder: its first name that is a store's and no log's, at place 0; or else the first of its logs that breaks off, and where.
abbrev pub IsDamaged : Folder → Name → ℕ → Type 0
IsDamaged folder name place =
    (IsFirstOther name folder × (place ≡ 0))
    ⊎ (HasOnlyLogs folder × ((number : ℕ) × (name ≡ log_name number) × BreaksAt folder number place))
