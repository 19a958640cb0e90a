-- What a power cut leaves of a store's folder.
use Rattle.std.specs.Prelude.{◌≡◌, ◌⊎◌, ℕ, ◌<◌, ◌≤◌, ◌^◌, List, [], ◌++◌, length, take, Option, IsSome, None, Some}
use Rattle.bl_site.specs.Disk.{Name, File, Folder, Disk, Cut, IsImage, IsCut}
use Rattle.bl_names.specs.Names.{IsNumber}
use Rattle.bl_entry.specs.Batches.{Batch}
use Rattle.bl_wal.specs.LogFile.{log_name}
use Rattle.bl_records.specs.Chance.{NoChanceMatch}
use Rattle.bl_logstore.specs.Folders.{Stands, IsNext}
use Rattle.bl_logstore.specs.Stored.{IsSynced, IsOpened, Makes}

-- a cut might find this folder, of the disks that there may be
abbrev pub MayBeFound : (Disk → Type 0) → Folder → Type 0
MayBeFound may_be folder = (disk : Disk) × may_be disk × IsImage disk folder

-- nothing more was told, and what is left is a folder that a cut before might have found
pub record LeavesFound (may_be : Disk → Type 0) (told : List ℕ) (c : Cut) : Type 0 where
  pub told_is : c.told ≡ told
  pub was : MayBeFound may_be c.folder

-- what was found, and the next log of the folder besides, which is empty
pub record WithNextLog (folder found left : Folder) : Type 0 where
  pub number : ℕ
  pub is_number : IsNumber number
  pub next : IsNext folder number
  pub made : Makes (log_name number) found left

-- Before the barrier of an opening on this folder: nothing more was told, and what is left is a folder that a cut before the opening might have found, perhaps with the next log besides.
pub record BeforeBarrier (folder : Folder) (may_be : Disk → Type 0) (told : List ℕ) (c : Cut) : Type 0 where
  pub told_is : c.told ≡ told
  pub found : Folder
  pub was : MayBeFound may_be found
  pub perhaps : (c.folder ≡ found) ⊎ WithNextLog folder found c.folder

-- a byte stands under a name
abbrev pub HasBytes : Option (List ℕ) → Type 0
HasBytes None = ⊥
HasBytes (Some bytes) = bytes ≡ [] → ⊥

-- Wherever a log has data, in what a cut leaves of it or in what was written, it leaves each log of a lower number as it was written.
abbrev pub AreLeftWhole : Cut → Type 0
AreLeftWhole c = (lower upper : ℕ) → IsNumber lower → lower < upper → upper < 10 ^ 15 → HasBytes (c.folder (log_name upper)) ⊎ HasBytes (c.written (log_name upper))
    → c.folder (log_name lower) ≡ c.written (log_name lower)

-- Nothing more was told, and older logs are left whole. Unless a torn fragment's checksum matches by chance, what is left stands for the older batches and the first ones of its own, at least so many.
pub record LeavesFirst (older own : List Batch) (least : ℕ) (told : List ℕ) (c : Cut) : Type 0 where
  pub told_is : c.told ≡ told
  pub whole : AreLeftWhole c
  pub stands : NoChanceMatch c.folder c.written → (count : ℕ) × (least ≤ count) × (count ≤ length own) × ((left : ℕ) × Stands c.folder (older ++ take count own) left)

-- it finds no file that was not there
abbrev pub FindsNoNewFile : Disk → Cut → Type 0
FindsNoNewFile disk c = (name : Name) → IsSome (c.written name) → IsSome (disk name)

-- it finds the disk as after an opening that ended well
pub record FindsOpened (folder : Folder) (told : List ℕ) (c : Cut) : Type 0 where
  pub disk : Disk
  pub opened : IsOpened folder disk
  pub is_cut : IsCut disk told c

-- a file that has a byte, as it reads or as it is written
abbrev pub HasData : Option File → Type 0
HasData None = ⊥
HasData (Some file) = (file.read ≡ [] → ⊥) ⊎ (file.front ++ file.handed ≡ [] → ⊥)

-- wherever a log has data, no log of a lower number has an unsynced byte
abbrev pub AreWhole : Disk → Type 0
AreWhole disk = (lower upper : ℕ) → IsNumber lower → lower < upper → upper < 10 ^ 15 → HasData (disk (log_name upper)) → IsSynced (disk (log_name lower))

-- its logs read as they were written
abbrev pub AreReadAsWritten : Disk → Type 0
AreReadAsWritten disk = (number : ℕ) (file : File) → IsNumber number → disk (log_name number) ≡ Some file → file.read ≡ file.front ++ file.handed
