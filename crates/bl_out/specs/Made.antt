-- What an output has made, entry by entry, and that sealing file by file finishes it.
use Rattle.std.specs.Prelude.{◌≡◌, ℕ, zero, suc, ◌+◌, ◌-◌, ◌^◌, ◌<◌, ◌≤◌, nat_le, Bool, true, false, List, [], ◌∷◌, length, flat_map, None, IfSome}
use Rattle.std.specs.List.{AllByRecursion}
use Rattle.bl_entry.specs.declared.key.Entry.{Entry}
use Rattle.bl_entry.specs.Entries.{IsProper, last_of}
use Rattle.bl_blob.specs.BlobFile.{IsRecord}
use Rattle.bl_edit.specs.Options.{AreInRange, Values}
use Rattle.bl_out.specs.Written.{Stored, Writes, stored_of}
use Rattle.bl_out.specs.Outputs.{Out, OutBlob, OutTable, added, begun, blob_size, close_blob, close_table, files_of, finished, made_for, next_file, sealed_next}
use Rattle.bl_out.specs.States.{IsOrdered}

-- the records of the blob files, one file behind the other; and the entries of the tables
abbrev pub all_stored : List OutBlob → List Stored
all_stored blobs = flat_map (λ b. stored_of b.number b.records) blobs

abbrev pub all_entries : List OutTable → List Entry
all_entries tables = flat_map (λ t. t.entries) tables

-- a table has a number from this one on, and some entry
pub record IsTableFrom (from : ℕ) (t : OutTable) : Type 0 where
  pub number : from ≤ t.number
  pub some : 1 ≤ length t.entries

-- A blob file has a number from this one on, and some records, each in bounds. It is closed exactly where it has the size, and passes that by less than 2 ^ 25 bytes.
pub record IsBlobFrom (from size : ℕ) (b : OutBlob) : Type 0 where
  pub number : from ≤ b.number
  pub some : 1 ≤ length b.records
  pub records : AllByRecursion IsRecord b.records
  pub closed : b.closed ≡ nat_le size (blob_size b.records)
  pub within : blob_size b.records < size + 2 ^ 25

-- What an output of options in range with no sealed file has made, with ascending numbers from one on up to below the next one: it writes what it was given, into one table where it shall, and its last table is open.
pub record IsMade (from next : ℕ) (o : Out) : Type 0 where
  pub options : AreInRange o.options
  pub writes : Writes o.options.min_blob_size (all_stored o.blobs) o.given (all_entries o.tables)
  pub one : o.one_table ≡ true → length o.tables ≤ 1
  pub last : IfSome (last_of o.tables) (λ t. t.closed ≡ false)
  pub unsealed : o.sealed ≡ 0
  pub ordered : IsOrdered next o
  pub tables : AllByRecursion (IsTableFrom from) o.tables
  pub blobs : AllByRecursion (IsBlobFrom from o.options.blob_file_size) o.blobs

-- An output begins so, and stays so with each entry.
abbrev pub BegunIsMade : Type 0
BegunIsMade = (options : Values) (one_table : Bool) (next : ℕ) → AreInRange options → IsMade next next (begun options one_table)

abbrev pub AddedIsMade : Type 0
AddedIsMade = (from next : ℕ) (o : Out) (e : Entry) → from ≤ next → IsProper e → IsMade from next o → IsMade from (next + made_for o e) (added next o e)

-- ---- sealing file by file

-- the first so many changed
abbrev pub on_first : {A : Type 0} → (A → A) → ℕ → List A → List A
on_first f zero xs = xs
on_first f (suc k) [] = []
on_first f (suc k) (x ∷ xs) = f x ∷ on_first f k xs

-- the output once so many files are sealed
abbrev pub sealed_to : ℕ → Out → Out
sealed_to k o = record o { tables = on_first close_table k o.tables; blobs = on_first close_blob (k - length o.tables) o.blobs; sealed = k }

-- Of an output with no file sealed each sealing seals the next file, and the last one finishes it.
abbrev pub SealsNext : Type 0
SealsNext = (k : ℕ) (o : Out) → k < length (files_of o) → sealed_next (sealed_to k o) ≡ sealed_to (suc k) o

abbrev pub SealsToTheEnd : Type 0
SealsToTheEnd = (o : Out) → (next_file (finished o) ≡ None) × (sealed_to (length (files_of o)) o ≡ finished o)
