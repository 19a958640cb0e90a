-- Laws of the machine and of its histories.
use Rattle.std.specs.Prelude.{◌≡◌, ℕ, ◌+◌, ◌≤◌, Bool, true, false, List, ◌++◌, length}
use Rattle.bl_entry.specs.Revisions.{Revision, Map, revisions_of, IsMapAt, AreUpTo}
use Rattle.bl_edit.specs.Options.{Values}
use Rattle.bl_script.specs.declared.command.Command.{Command}
use Rattle.bl_script.specs.declared.command.Command.TheVariants as command
use Rattle.bl_script.specs.declared.command.Parsed.{Parsed}
use Rattle.bl_script.specs.declared.command.Parsed.TheVariants.{Nothing, Refused, Go}
use Rattle.bl_machine.specs.Writes.{Write, after_writes, operations_in, numbered}
use Rattle.bl_machine.specs.State.{State, IsInOrder}
use Rattle.bl_machine.specs.Step.{Line, Step}
use Rattle.bl_machine.specs.History.{Runs, told_by, written_by, IsHistory, IsFront}
use Rattle.bl_machine.specs.Synced.{before_sync, synced, begun}

-- ---- the machine is never stuck

-- From each state whose files are in order each line has a reply and a next state,
pub record GoesOn (o : Values) (s : State) (order : Parsed) : Type 0 where
  pub line : Line
  pub ordered : line.order ≡ order
  pub next : State
  pub step : Step o s line next

abbrev pub LinesGoOn : Type 0
LinesGoOn = (o : Values) (s : State) (order : Parsed) → IsInOrder s.listing → GoesOn o s order

-- and so has each script: a history that has begun can be brought to the script's end.
pub record GoesToTheEnd (o : Values) (first : State) (given : List Parsed) (front : List Line) : Type 0 where
  pub more : List Line
  pub last : State
  pub is_history : IsHistory o first given (front ++ more) last

abbrev pub FrontsGoOn : Type 0
FrontsGoOn = (o : Values) (first : State) (given : List Parsed) (front : List Line) (mid : State) → IsInOrder first.listing → IsFront o first given front mid
    → GoesToTheEnd o first given front

-- ---- what lines change

-- The map is that after all that was written.
abbrev pub MapsFollowWrites : Type 0
MapsFollowWrites = (o : Values) (first : State) (history : List Line) (last : State) → Runs o first history last → last.now ≡ after_writes (written_by history) first.now

-- The batches of some writes, behind the last sequence, make the map after these writes of the one that was there.
abbrev pub WritesMakeMap : Type 0
WritesMakeMap = (es : List Revision) (last : ℕ) (writes : List Write) (m : Map) → AreUpTo last es → IsMapAt es last m
    → IsMapAt (es ++ revisions_of (numbered (last + 1) writes)) (last + operations_in writes) (after_writes writes m)
    × AreUpTo (last + operations_in writes) (es ++ revisions_of (numbered (last + 1) writes))

-- the lines that may change the files
abbrev pub changes_files : Command → Bool
changes_files (command.Put key value) = true
changes_files (command.Del key) = true
changes_files (command.Batch operations) = true
changes_files (command.Get key) = false
changes_files (command.Scan from to) = false
changes_files command.Sync = false
changes_files command.Flush = true
changes_files command.Files = false
changes_files command.Reopen = true

abbrev pub may_change_files : Parsed → Bool
may_change_files Nothing = false
may_change_files (Refused why) = false
may_change_files (Go c) = changes_files c

-- The others leave them as they are.
abbrev pub OthersKeepFiles : Type 0
OthersKeepFiles = (o : Values) (old : State) (line : Line) (new : State) → Step o old line new → may_change_files line.order ≡ false → new.listing ≡ old.listing

-- ---- which writes are synced, and which have begun

-- What is known to be synced has begun, and no more begins than is written.
abbrev pub SyncedHaveBegun : Type 0
SyncedHaveBegun = (count : ℕ) (history : List Line) → synced count history ≤ begun count history

abbrev pub BegunAreWritten : Type 0
BegunAreWritten = (count : ℕ) (history : List Line) → begun count history ≤ length (written_by history)

-- Once more is told, no less is synced, and no less has begun.
abbrev pub MoreToldMoreSynced : Type 0
MoreToldMoreSynced = (less count : ℕ) (history : List Line) → less ≤ count → (synced less history ≤ synced count history) × (begun less history ≤ begun count history)

-- Once all replies are told, all writes have begun, and those before the last line that syncs are synced.
abbrev pub AllAreTold : Type 0
AllAreTold = (history : List Line) → (synced (length (told_by history)) history ≡ before_sync history) × (begun (length (told_by history)) history ≡ length (written_by history))

-- Lines of whose replies nothing was told change nothing of what is synced, and take back nothing that has begun.
abbrev pub MoreLinesKeepSynced : Type 0
MoreLinesKeepSynced = (o : Values) (history more : List Line) (mid last : State) (count : ℕ) → Runs o mid more last → count ≤ length (told_by history)
    → (synced count (history ++ more) ≡ synced count history) × (begun count history ≤ begun count (history ++ more))

-- What was told decides it: histories of the same orders that begin by telling the same, from whatever states, have as many writes synced and begun.
abbrev pub ToldDecides : Type 0
ToldDecides = (o other : Values) (a b : State) (given : List Parsed) (xs ys : List Line) (c d : State) (front more others : List ℕ)
    → IsHistory o a given xs c → IsHistory other b given ys d → front ++ more ≡ told_by xs → front ++ others ≡ told_by ys
    → (synced (length front) xs ≡ synced (length front) ys) × (begun (length front) xs ≡ begun (length front) ys)
