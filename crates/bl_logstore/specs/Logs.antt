-- The batches in the logs of a folder, and the map that they make.
use Rattle.std.specs.Prelude.{◌≡◌, ℕ, zero, suc, ◌^◌, ◌<◌, List, [], ◌∷◌, ◌++◌, Option, None, Some}
use Rattle.bl_site.specs.Disk.{Folder}
use Rattle.bl_log.specs.Log.{records}
use Rattle.bl_entry.specs.Batches.{Batch}
use Rattle.bl_entry.specs.Records.{batches_of}
use Rattle.bl_entry.specs.Revisions.{Map, after_operations}
use Rattle.bl_wal.specs.LogFile.{log_name}

-- a file that is not there has no bytes
abbrev pub bytes_in : Option (List ℕ) → List ℕ
bytes_in None = []
bytes_in (Some bytes) = bytes

abbrev pub log_bytes : ℕ → Folder → List ℕ
log_bytes number folder = bytes_in (folder (log_name number))

-- the records of the logs up to this number, in order of number
unfoldable pub records_up_to : ℕ → Folder → List (List ℕ)
records_up_to zero folder = []
records_up_to (suc number) folder = records_up_to number folder ++ records (log_bytes (suc number) folder)

-- The logs hold these batches: the first begins with sequence 1 and each further one behind the last sequence. `last` is the last sequence of all.
pub record HaveBatches (folder : Folder) (batches : List Batch) (last : ℕ) : Type 0 where
  pub top : ℕ
  pub is_number : top < 10 ^ 15
  -- no log behind these has a byte
  pub no_more : (number : ℕ) → top < number → number < 10 ^ 15 → log_bytes number folder ≡ []
  pub are : batches_of (records_up_to top folder) 0 ≡ Some (batches, last)

-- the map after some batches
unfoldable pub after_batches : List Batch → Map → Map
after_batches [] m = m
after_batches (b ∷ more) m = after_batches more (after_operations b.operations m)
