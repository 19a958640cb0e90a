-- What a contract sees of a store, and how it stands on a disk.
use Rattle.std.specs.Prelude.{◌≡◌, ◌≢◌, ◌⊎◌, ℕ, ◌+◌, ◌-◌, ◌<◌, ◌^◌, Bool, false, List, [], ◌∷◌, ◌++◌, length, map as mapped, Option, refl, IsSome, None, Some}
use Rattle.std.specs.FinMap as map
use Rattle.std.specs.FinMap.{empty, from_entries}
use Rattle.std.specs.Coded.{Coded, code_by, coded×, coded_ℕ, coded_bool, coded_list}
use Rattle.bl_site.specs.Disk.{Name, File, Folder, Disk, folder_of}
use Rattle.bl_site.specs.Calls.{AppendsAny}
use Rattle.bl_names.specs.Names.{IsNumber}
use Rattle.bl_entry.specs.Batches.{Batch}
use Rattle.bl_entry.specs.Records.{batches_of}
use Rattle.bl_entry.specs.Revisions.{Map, after_operations}
use Rattle.bl_entry.specs.declared.batch.Operation.{Operation}
use Rattle.bl_wal.specs.LogFile.{LogFile, log_name, record_bytes, behind}
use Rattle.bl_wal.specs.Held.{record_of, HoldsBatches}
use Rattle.bl_logstore.specs.Logs.{records_up_to, after_batches, HaveBatches}
use Rattle.bl_logstore.specs.Folders.{HasOnlyLogs, IsNext}

-- the map of some pairs
abbrev pub map_in : List (List ℕ × List ℕ) → Map
map_in pairs = from_entries pairs

-- the log in use, the last sequence, the map of all that was written, and whether a writing call has failed
pub record Stored : Type 0 where
  pub log : LogFile
  pub last : ℕ
  pub now : Map
  pub broken : Bool

-- its code, by which a model tells its values apart
abbrev pub stored_code : Coded Stored
stored_code =
    code_by (ℕ × (ℕ × (Bool × (ℕ × (Map × Bool))))) (coded× coded_ℕ (coded× coded_ℕ (coded× coded_bool (coded× coded_ℕ (coded× (map.code (coded_list coded_ℕ) (coded_list coded_ℕ)) coded_bool)))))
    (λ s. (s.log.number, (s.log.place, (s.log.failed, (s.last, (s.now, s.broken))))))
    (λ p. record { log = record { number = p.0; place = p.1.0; failed = p.1.1.0 }; last = p.1.1.1.0; now = p.1.1.1.1.0; broken = p.1.1.1.1.1 }) (λ _. refl)

-- the batch that is written next
abbrev pub next_batch : Stored → List Operation → Batch
next_batch store operations = record { first = store.last + 1; operations = operations }

-- what appends it to the log in use
abbrev pub next_record : Stored → List Operation → List ℕ
next_record store operations = record_bytes store.log.place (store.last + 1) operations

-- the store behind it
abbrev pub wrote : Stored → List Operation → Stored
wrote store operations = record {
  log = behind store.log (next_record store operations);
  last = store.last + length operations;
  now = after_operations operations store.now;
  broken = store.broken;
}

-- no byte of the file is unsynced, where it is there
abbrev pub IsSynced : Option File → Type 0
IsSynced None = Unit {0}
IsSynced (Some file) = (file.front ≡ file.read) × (file.handed ≡ [])

-- A disk of logs alone. Those below the log in use are synced and hold the older batches; the log in use is the last one, and holds its own behind them, of which so many are synced.
pub record StandsOn (log : LogFile) (older own : List Batch) (synced last : ℕ) (disk : Disk) : Type 0 where
  pub only : HasOnlyLogs (folder_of disk)
  pub is_number : IsNumber log.number
  pub newest : (number : ℕ) → log.number < number → number < 10 ^ 15 → disk (log_name number) ≡ None
  pub below_synced : (number : ℕ) → IsNumber number → number < log.number → IsSynced (disk (log_name number))
  pub between : ℕ
  pub below : batches_of (records_up_to (log.number - 1) (folder_of disk)) 0 ≡ Some (older, between)
  pub holds : HoldsBatches disk log own synced
  pub follow : batches_of (mapped record_of own) between ≡ Some (own, last)

-- The store stands on the disk, whose batches made its map.
pub record Carries (store : Stored) (older own : List Batch) (synced : ℕ) (disk : Disk) : Type 0 where
  pub on : StandsOn store.log older own synced store.last disk
  pub now_is : store.now ≡ after_batches (older ++ own) empty

-- after a write that failed: the disk holds the batches, or also the next one behind them
abbrev pub MayHold : Stored → Stored → List Operation → List Batch → List Batch → ℕ → Disk → Type 0
MayHold old new operations older own synced disk =
    StandsOn new.log older own synced old.last disk
    ⊎ StandsOn new.log older (own ++ next_batch old operations ∷ []) synced (old.last + length operations) disk

-- nothing was appended, or some bytes were, at most as many as were to be
abbrev pub MayAppend : Name → List ℕ → Disk → Disk → Type 0
MayAppend name bytes old new = (new ≡ old) ⊎ AppendsAny name bytes old new

-- an empty file more, and all else as before
pub record Makes (name : Name) (old new : Folder) : Type 0 where
  pub made : new name ≡ Some []
  pub others : (other : Name) → (other ≡ name → ⊥) → new other ≡ old other

-- every name but this one stands for the file that it stood for
abbrev pub KeepsAllBut : Name → Disk → Disk → Type 0
KeepsAllBut name old new = (other : Name) → other ≢ name → new other ≡ old other

-- so does every name that is no log's
abbrev pub KeepsOthers : Disk → Disk → Type 0
KeepsOthers old new = (name : Name) → ((number : ℕ) → IsNumber number → name ≢ log_name number) → new name ≡ old name

-- A store was opened on a folder: it stands on the folder's batches, and has made the next log, which is empty.
pub record Opens (folder : Folder) (store : Stored) (disk : Disk) : Type 0 where
  pub whole : store.log.failed ≡ false
  pub batches : List Batch
  pub only : HasOnlyLogs folder
  pub had : HaveBatches folder batches store.last
  pub carries : Carries store batches [] 0 disk
  pub next : IsNext folder store.log.number
  pub made : Makes (log_name store.log.number) folder (folder_of disk)

-- No file was made: each name that is there was there.
abbrev pub MakesNoFile : Disk → Disk → Type 0
MakesNoFile old new = (name : Name) → IsSome (new name) → IsSome (old name)

-- the next log of the folder was made: it is among these files
pub record HasNextLog {A : Type 0} (folder : Folder) (files : Name → Option A) : Type 0 where
  pub number : ℕ
  pub is_number : IsNumber number
  pub next : IsNext folder number
  pub there : IsSome (files (log_name number))

-- some store was opened on the folder, and can write
pub record IsOpened (folder : Folder) (disk : Disk) : Type 0 where
  pub store : Stored
  pub usable : store.broken ≡ false
  pub opens : Opens folder store disk
