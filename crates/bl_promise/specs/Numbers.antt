-- How many file numbers a run takes.
use Rattle.std.specs.Prelude.{◌≡◌, ℕ, ◌+◌, ◌-◌, ◌*◌, ◌^◌, ◌<◌, ◌≤◌, List, [], ◌∷◌, ◌++◌, length, Option, None, Some}
use Rattle.bl_site.specs.Disk.{Folder}
use Rattle.bl_entry.specs.declared.key.Entry.{Entry}
use Rattle.bl_edit.specs.Options.{Values}
use Rattle.bl_flush.specs.Jobs.{next_of}
use Rattle.bl_script.specs.declared.command.Parsed.{Parsed}
use Rattle.bl_machine.specs.Writes.{Write}
use Rattle.bl_machine.specs.Step.{Line}
use Rattle.bl_machine.specs.History.{orders_of}
use Rattle.bl_store.specs.Stored.{Stored}
use Rattle.bl_store.specs.Calls.{HasEmptied, HasWritten, next_emptied, next_with_room}
use Rattle.bl_store.specs.Opening.{IsBegun}
use Rattle.bl_store.specs.declared.store.Waiting.{Waiting}
use Rattle.bl_promise.specs.Start.{IsFirstOf, Start}
use Rattle.bl_promise.specs.Telling.{PassesNumber, last_after}

-- A flush takes at most two numbers for each entry: one for its table, and one for each blob file, which has a value.
abbrev pub FlushesTakeFew : Type 0
FlushesTakeFew = (options : Values) (snapshots : List ℕ) (next : ℕ) (memory : List Entry) → next_of options snapshots next memory ≤ next + 2 * length memory

-- the entries in memory
abbrev pub waiting_in : Option Waiting → ℕ
waiting_in None = 0
waiting_in (Some w) = length w.memory

abbrev pub in_memory : Stored → ℕ
in_memory store = length store.memory + waiting_in store.waiting

-- the operations accepted since a run began
abbrev pub accepted : Start → Stored → ℕ
accepted began store = store.last - began.last

-- the numbers that one line takes at most: those of two flushes and an opening
abbrev pub per_line : Start → Stored → ℕ
per_line began store = 4 * (began.entries + accepted began store) + 5

-- Since the first number that the opening might take, each line has taken at most so many; and no more entries are in memory than were accepted.
pub record IsNumbered (number : ℕ) (began : Start) (given : List Parsed) (store : Stored) : Type 0 where
  pub since : began.last ≤ store.last
  pub few : in_memory store ≤ accepted began store
  pub next : store.next ≤ number + (length given + 1) * per_line began store

-- ---- each line keeps it

-- So it is behind an opening that took the numbers of a manifest, a log and a flush,
abbrev pub OpeningsAreNumbered : Type 0
OpeningsAreNumbered = (number : ℕ) (began : Start) (store : Stored) → IsBegun store → store.last ≡ began.last → store.next ≤ number + 2 * began.entries + 2 → IsNumbered number began [] store

-- behind a write, whose operations alone come into memory;
abbrev pub WritesAreNumbered : Type 0
WritesAreNumbered = (number : ℕ) (began : Start) (given : List Parsed) (order : Parsed) (w : Write) (old new : Stored) → IsNumbered number began given old → HasWritten w old new → in_memory new ≤ in_memory old + length w
    → IsNumbered number began (given ++ order ∷ []) new

-- a flush;
abbrev pub FlushesAreNumbered : Type 0
FlushesAreNumbered = (number : ℕ) (began : Start) (given : List Parsed) (order : Parsed) (old new : Stored) → IsNumbered number began given old → HasEmptied old new → IsNumbered number began (given ++ order ∷ []) new

-- a reopening, which takes the numbers of a manifest, a log and a flush;
abbrev pub ReopeningsAreNumbered : Type 0
ReopeningsAreNumbered = (number : ℕ) (began : Start) (given : List Parsed) (order : Parsed) (old new : Stored) → IsNumbered number began given old → IsBegun new → new.last ≡ old.last → new.next ≤ next_emptied old + 2
    → IsNumbered number began (given ++ order ∷ []) new

-- and a line that takes none.
abbrev pub QuietLinesAreNumbered : Type 0
QuietLinesAreNumbered = (number : ℕ) (began : Start) (given : List Parsed) (order : Parsed) (store : Stored) → IsNumbered number began given store → IsNumbered number began (given ++ order ∷ []) store

-- ---- where none is left

-- Where a write needs more than are left, the limit is passed; and where a flush or a reopening does.
abbrev pub NumbersPass : Type 0
NumbersPass = (folder : Folder) (number : ℕ) (began : Start) (history : List Line) (store : Stored) → IsFirstOf folder number → IsNumbered number began (orders_of history) store → store.last ≡ last_after began history
    → 10 ^ 15 < next_emptied store + 3 → PassesNumber folder began history (10 ^ 15)

abbrev pub RoomIsWithin : Type 0
RoomIsWithin = (store : Stored) → next_with_room store ≤ next_emptied store + 1
