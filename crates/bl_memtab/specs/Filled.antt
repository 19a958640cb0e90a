-- A memory table that is filled, entry by entry, with what batches write.
use Rattle.std.specs.Prelude.{◌≡◌, ℕ, ◌+◌, ◌<◌, List, [], ◌∷◌, ◌++◌, length, map, Some, option_and_then}
use Rattle.std.specs.List.Sorted.{IsPermutation}
use Rattle.bl_entry.specs.Batches.{Batch}
use Rattle.bl_entry.specs.Entries.{EntriesUpTo, IsAscending}
use Rattle.bl_entry.specs.Keys.{Key}
use Rattle.bl_entry.specs.Latest.{latest, revision_of}
use Rattle.bl_entry.specs.Records.{batches_of}
use Rattle.bl_entry.specs.Revisions.{newest, seen, value_at, revisions_of}
use Rattle.bl_entry.specs.Written.{entries_from, entries_of}
use Rattle.bl_entry.specs.declared.batch.Operation.{Operation}
use Rattle.bl_entry.specs.declared.key.Entry.{Entry}
use Rattle.bl_memtab.specs.Tables.{IsFree, with_entry}

-- A key of a later sequence than all entries is free: such an entry may be inserted without a search.
abbrev pub LaterIsFree : Type 0
LaterIsFree = (es : List Entry) (last : ℕ) (key : Key) → EntriesUpTo last es → last < key.seq → IsFree key es

-- the list after these entries were inserted, one after the other
abbrev pub filled : List Entry → List Entry → List Entry
filled es [] = es
filled es (e ∷ more) = filled (with_entry e es) more

-- each of them is free as it is inserted
abbrev pub AreFree : List Entry → List Entry → Type 0
AreFree es [] = Unit {0}
AreFree es (e ∷ more) = IsFree e.key es × AreFree (with_entry e es) more

-- The list has exactly the entries written, in key order, none of a later sequence than this one; and of each key at each sequence it tells what they tell.
pub record Holds (es written : List Entry) (last : ℕ) : Type 0 where
  pub ascending : IsAscending es
  pub same : IsPermutation written es
  pub up_to : EntriesUpTo last es
  pub all_up_to : EntriesUpTo last written
  pub newest_is : (seq : ℕ) (key : List ℕ) → newest (seen seq key (map revision_of es)) ≡ newest (seen seq key (map revision_of written))

-- An entry behind the last sequence is free, and joins what is held.
abbrev pub OneMoreIsHeld : Type 0
OneMoreIsHeld = (es written : List Entry) (last : ℕ) (e : Entry) → Holds es written last → last < e.key.seq
    → IsFree e.key es × Holds (with_entry e es) (written ++ e ∷ []) e.key.seq

-- So do the entries of operations behind the last sequence,
abbrev pub OperationsAreHeld : Type 0
OperationsAreHeld = (es written : List Entry) (last : ℕ) (operations : List Operation) → Holds es written last
    → AreFree es (entries_from (last + 1) operations)
    × Holds (filled es (entries_from (last + 1) operations)) (written ++ entries_from (last + 1) operations) (last + length operations)

-- and those of the batches of records, each of which begins behind the last sequence: they go in one after the other, and then the table has exactly these, in key order.
abbrev pub BatchesAreHeld : Type 0
BatchesAreHeld = (records : List (List ℕ)) (before last : ℕ) (batches : List Batch) (es written : List Entry) → batches_of records before ≡ Some (batches, last)
    → Holds es written before → AreFree es (entries_of batches) × Holds (filled es (entries_of batches)) (written ++ entries_of batches) last

-- What is held of batches tells the value of each key at each sequence that the batches tell.
abbrev pub HeldIsTheValue : Type 0
HeldIsTheValue = (es : List Entry) (batches : List Batch) (last : ℕ) (seq : ℕ) (key : List ℕ) → Holds es (entries_of batches) last
    → option_and_then (λ e. (revision_of e).put) (latest key seq es) ≡ value_at (revisions_of batches) seq key

-- A table of no entry holds none.
abbrev pub NoneIsHeld : Type 0
NoneIsHeld = (last : ℕ) → Holds [] [] last
