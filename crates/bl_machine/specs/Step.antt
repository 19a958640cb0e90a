-- One line of a script: what it writes, what it may tell, and what it may leave.
use Rattle.std.specs.Prelude.{◌≡◌, ℕ, ◌+◌, ◌&&◌, ◌||◌, nat_le, Bool, true, false, List, [], ◌∷◌, ◌++◌, map, filter, flat_map, Option, None, Some, if◌then◌else◌}
use Rattle.std.specs.FinMap.{get, entries}
use Rattle.bl_code.specs.Order.{bytes_lt, bytes_le}
use Rattle.bl_entry.specs.Batches.{put_of, deletion_of}
use Rattle.bl_entry.specs.Revisions.{Map, after_operations}
use Rattle.bl_edit.specs.Options.{Values}
use Rattle.bl_edit.specs.declared.edit.NewTable.{NewTable}
use Rattle.bl_build.specs.declared.meta.BlobMeta.{BlobMeta}
use Rattle.bl_build.specs.Listing.{Listing}
use Rattle.bl_script.specs.declared.command.Command.{Command}
use Rattle.bl_script.specs.declared.command.Command.TheVariants as command
use Rattle.bl_script.specs.declared.command.Parsed.{Parsed}
use Rattle.bl_script.specs.declared.command.Parsed.TheVariants.{Nothing, Refused, Go}
use Rattle.bl_script.specs.declared.reply.TableLine.{TableLine}
use Rattle.bl_script.specs.declared.reply.BlobLine.{BlobLine}
use Rattle.bl_script.specs.Printing.{ok_line, end_line, value_line, pair_line, table_line, blob_line, refusal_line}
use Rattle.bl_machine.specs.Writes.{Write, operation, bytes_of}
use Rattle.bl_machine.specs.State.{State, IsInOrder}

-- ---- what is written

-- what a command writes in a state, if it writes
abbrev pub written : State → Command → List Write
written s (command.Put key value) = (put_of key value ∷ []) ∷ []
written s (command.Del key) = (deletion_of key ∷ []) ∷ []
written s (command.Batch operations) = map operation operations ∷ []
written s (command.Get key) = []
written s (command.Scan from to) = []
written s command.Sync = []
written s command.Flush = []
written s command.Files = []
written s command.Reopen = []

-- the same of a line: a blank line, a comment and a line that is refused write nothing
abbrev pub writes_of : State → Parsed → List Write
writes_of s Nothing = []
writes_of s (Refused why) = []
writes_of s (Go c) = written s c

-- ---- what is told

-- at `from` or behind it
abbrev pub is_from : Option (List ℕ) → List ℕ → Bool
is_from None key = true
is_from (Some from) key = bytes_le from key

-- before `to`
abbrev pub is_before : Option (List ℕ) → List ℕ → Bool
is_before None key = true
is_before (Some to) key = bytes_lt key to

-- the pairs whose keys are at `from` or behind it and before `to`, ascending
abbrev pub pairs_between : Option (List ℕ) → Option (List ℕ) → Map → List (List ℕ × List ℕ)
pairs_between from to m = filter (λ p. is_from from p.0 && is_before to p.0) (entries m)

-- the lines of these pairs, and `end`
abbrev pub scan_lines : List (List ℕ × List ℕ) → List ℕ
scan_lines pairs = flat_map (λ p. pair_line p.0 p.1) pairs ++ end_line

-- a table and a blob file as `files` tells them
abbrev pub shown_table : NewTable → TableLine
shown_table t = record { level = t.level; number = t.number; size = t.size; oldest = t.oldest_blob }

abbrev pub shown_blob : BlobMeta → BlobLine
shown_blob b = record {
  number = b.number;
  count = b.total.count;
  bytes = b.total.bytes;
  garbage_count = b.garbage.count;
  garbage_bytes = b.garbage.bytes;
  linked = b.linked;
}

-- the lines of the tables, those of the blob files, and `end`
abbrev pub files_lines : Listing → List ℕ
files_lines l = flat_map (λ t. table_line (shown_table t)) l.tables ++ flat_map (λ b. blob_line (shown_blob b)) l.blobs ++ end_line

-- ---- what is left

-- A line that tells this and changes nothing.
pub record Tells (wanted : List ℕ) (old : State) (told : List ℕ) (new : State) : Type 0 where
  pub told_is : told ≡ wanted
  pub same : new ≡ old

-- a flag that may be cleared, and is not set
abbrev pub MayClear : Bool → Bool → Type 0
MayClear old new = new ≡ true → old ≡ true

-- a write that finds as many bytes written as the buffer holds switches memories before it is written
abbrev pub switches : Values → State → Bool
switches o s = nat_le o.write_buffer s.buffered

-- A write: the map is that after its operations, and its bytes are counted. Where it switches memories, a memory waits, and the count begins
-- at 0. A job may be done, and the files may be others.
pub record Writes (o : Values) (operations : Write) (old : State) (told : List ℕ) (new : State) : Type 0 where
  pub told_is : told ≡ ok_line
  pub job : MayClear old.runs new.runs
  pub left : new ≡ record old {
    now = after_operations operations old.now;
    listing = new.listing;
    waits = switches o old || old.waits;
    runs = new.runs;
    buffered = (if switches o old then 0 else old.buffered) + bytes_of operations;
  }

-- `flush`: no memory waits, and no bytes are counted. A job may be done, and the files may be others.
pub record Flushes (old : State) (told : List ℕ) (new : State) : Type 0 where
  pub told_is : told ≡ ok_line
  pub job : MayClear old.runs new.runs
  pub left : new ≡ record old { listing = new.listing; waits = false; runs = new.runs; buffered = 0 }

-- `reopen`: no memory waits, no job runs, and no bytes are counted. The files may be others.
pub record Reopens (old : State) (told : List ℕ) (new : State) : Type 0 where
  pub told_is : told ≡ ok_line
  pub left : new ≡ record old { listing = new.listing; waits = false; runs = false; buffered = 0 }

-- ---- one rule for each line

abbrev pub Does : Values → Command → State → List ℕ → State → Type 0
Does o (command.Put key value) old = Writes o (put_of key value ∷ []) old
Does o (command.Del key) old = Writes o (deletion_of key ∷ []) old
Does o (command.Batch operations) old = Writes o (map operation operations) old
Does o (command.Get key) old = Tells (value_line (get old.now key)) old
Does o (command.Scan from to) old = Tells (scan_lines (pairs_between from to old.now)) old
Does o command.Sync old = Tells ok_line old
Does o command.Flush old = Flushes old
Does o command.Files old = Tells (files_lines old.listing) old
Does o command.Reopen old = Reopens old

-- A blank line and a comment tell nothing. A refusal is a reply. Neither changes anything.
abbrev pub Obeys : Values → Parsed → State → List ℕ → State → Type 0
Obeys o Nothing old = Tells [] old
Obeys o (Refused why) old = Tells (refusal_line why) old
Obeys o (Go c) old = Does o c old

-- a line of a history: what was ordered, what it wrote, and the bytes that it told
pub record Line : Type 0 where
  pub order : Parsed
  pub wrote : List Write
  pub told : List ℕ

-- One line is obeyed.
pub record Step (o : Values) (old : State) (line : Line) (new : State) : Type 0 where
  pub obeys : Obeys o line.order old line.told new
  pub wrote_is : line.wrote ≡ writes_of old line.order
  pub in_order : IsInOrder new.listing
