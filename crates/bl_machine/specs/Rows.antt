-- Worked rows: what some scripts tell, on a store that was empty as the run began.
use Rattle.std.specs.Prelude.{◌≡◌, ℕ, List, [], ◌∷◌, codes, true, false}
use Rattle.std.specs.FinMap.{empty}
use Rattle.bl_edit.specs.Options.{Values}
use Rattle.bl_build.specs.Listing.{Listing, nothing}
use Rattle.bl_machine.specs.State.{State, start, IsInOrder}
use Rattle.bl_machine.specs.Step.{Line}
use Rattle.bl_machine.specs.History.{told_by, orders, IsHistory}

-- a history of a script
pub record HistoryOf (o : Values) (script : List ℕ) : Type 0 where
  pub history : List Line
  pub last : State
  pub is_history : IsHistory o (start empty nothing) (orders script) history last

-- Where its files are these in the end, a script tells this and nothing else; and there is such a history.
pub record TellsRow (script : List ℕ) (files : Listing) (told : List ℕ) : Type 0 where
  pub each : (o : Values) (h : HistoryOf o script) → h.last.listing ≡ files → told_by h.history ≡ told
  pub one : (o : Values) → (h : HistoryOf o script) × (h.last.listing ≡ files)

-- a put is read, and another key has no value, whatever the files are
abbrev pub PutIsRead : Type 0
PutIsRead = (files : Listing) → IsInOrder files → TellsRow (codes "put a =xyz\nget a\nget b\n") files (codes "ok\nvalue =xyz\nnone\n")

-- one put under the key a that was flushed: its table, and the blob file of its value, if it went into one
abbrev pub flushed_table : (kind size oldest : ℕ) → Listing
flushed_table kind size oldest = record {
  tables = record {
    level = 0;
    number = 4;
    size = size;
    smallest = 97 ∷ kind ∷ 1 ∷ 0 ∷ 0 ∷ 0 ∷ 0 ∷ 0 ∷ 0 ∷ [];
    largest = 97 ∷ kind ∷ 1 ∷ 0 ∷ 0 ∷ 0 ∷ 0 ∷ 0 ∷ 0 ∷ [];
    least_seq = 1;
    most_seq = 1;
    oldest_blob = oldest;
  } ∷ [];
  blobs = [];
}

abbrev pub with_blob : ℕ → Listing
with_blob bytes = record (flushed_table 17 118 5) {
  blobs = record { number = 5; total = record { count = 1; bytes = bytes }; garbage = record { count = 0; bytes = 0 }; linked = 1 } ∷ [];
}

-- `files` tells the table and the blob file,
abbrev pub FlushedIsListed : Type 0
FlushedIsListed = TellsRow (codes "put a =xyz\nflush\nfiles\n") (with_blob 36) (codes "ok\nok\ntable 0 4 118 5\nblob 5 total 1 36 garbage 0 0 linked 1\nend\n")

-- the table alone where the value stays in it,
abbrev pub InlineIsListed : Type 0
InlineIsListed = TellsRow (codes "put a =xy\nflush\nfiles\n") (flushed_table 1 115 0) (codes "ok\nok\ntable 0 4 115 0\nend\n")

-- and nothing where there are no files.
abbrev pub NoneAreListed : Type 0
NoneAreListed = TellsRow (codes "flush\nfiles\n") nothing (codes "ok\nend\n")

-- A flushed value of no byte is one that stands.
abbrev pub EmptyIsRead : Type 0
EmptyIsRead = TellsRow (codes "put a =\nflush\nfiles\nget a\n") (with_blob 33) (codes "ok\nok\ntable 0 4 118 5\nblob 5 total 1 33 garbage 0 0 linked 1\nend\nvalue =\n")

-- The second put finds 10 bytes written: it switches memories where the buffer holds no more, and counts anew.
pub record Switches (script : List ℕ) : Type 0 where
  pub full : (o : Values) (h : HistoryOf o script) → o.write_buffer ≡ 10 → (h.last.waits ≡ true) × (h.last.buffered ≡ 10)
  pub not_full : (o : Values) (h : HistoryOf o script) → o.write_buffer ≡ 11 → (h.last.waits ≡ false) × (h.last.buffered ≡ 20)

abbrev pub SecondPutSwitches : Type 0
SecondPutSwitches = Switches (codes "put a =1\nput b =2\n")

-- Behind two puts a flush leaves no memory that waits and no bytes counted, whatever the buffer.
abbrev pub FlushEmpties : Type 0
FlushEmpties = (o : Values) (h : HistoryOf o (codes "put a =1\nput b =2\nflush\n")) → (h.last.waits ≡ false) × (h.last.buffered ≡ 0)
