-- A store that carries a state of the machine.
use Rattle.std.specs.Prelude.{◌≡◌, ℕ, ◌+◌, ◌≤◌, Bool, true, false, List, ◌++◌, length, Option, None, Some}
use Rattle.bl_site.specs.Disk.{Disk, Name}
use Rattle.bl_entry.specs.Revisions.{Map}
use Rattle.bl_edit.specs.Options.{Values}
use Rattle.bl_machine.specs.Writes.{Write, after_writes}
use Rattle.bl_script.specs.declared.command.Parsed.{Parsed}
use Rattle.bl_machine.specs.State.{State, IsInOrder}
use Rattle.bl_machine.specs.Step.{Line, Obeys}
use Rattle.bl_machine.specs.History.{written_by}
use Rattle.bl_machine.specs.Synced.{before_sync}
use Rattle.bl_store.specs.Stored.{Stored}
use Rattle.bl_store.specs.Held.{Held, now_of}
use Rattle.bl_store.specs.Standing.{StandsFor}
use Rattle.bl_store.specs.Calls.{bytes_in}
use Rattle.bl_store.specs.declared.store.Waiting.{Waiting}
use Rattle.bl_promise.specs.Start.{Start}

-- a memory waits
abbrev pub is_waiting : Option Waiting → Bool
is_waiting None = false
is_waiting (Some w) = true

-- The machine's state: the map, the files of the store's version, whether a memory waits in it, and the bytes of its memory in use. No job runs.
abbrev pub state_of : Map → Stored → State
state_of now store = record { now = now; listing = store.version; waits = is_waiting store.waiting; runs = false; buffered = bytes_in store.memory }

-- The store carries the state on the disk: it stands there for what it holds, with these options, and the state is its own, with the map after all writes.
pub record CarriesState (names : List Name) (o : Values) (s : State) (held : Held) (store : Stored) (disk : Disk) : Type 0 where
  pub stands : StandsFor names held store disk
  pub options_are : store.standing.options ≡ o
  pub state_is : s ≡ state_of (now_of held) store

-- What a store holds are the writes of a history behind those made before the folder was last opened, which its first map has; and those before the last line that syncs are durable.
pub record IsWrittenBy (began : Start) (earlier : List Write) (held : Held) (history : List Line) : Type 0 where
  pub before : held.before ≡ after_writes earlier began.now
  pub writes : written_by history ≡ earlier ++ held.writes
  pub durable : before_sync history ≤ length earlier + held.durable

-- A line takes one state to the next one, which the store carries.
pub record IsLineTo (names : List Name) (o : Values) (order : Parsed) (s : State) (told : List ℕ) (held : Held) (store : Stored) (disk : Disk) : Type 0 where
  pub obeys : Obeys o order s told (state_of (now_of held) store)
  pub in_order : IsInOrder store.version
  pub carries : CarriesState names o (state_of (now_of held) store) held store disk

-- A store holds what a history has written, and carries its last state on the disk, as if the files of these names had been synced.
pub record IsStored (names : List Name) (began : Start) (history : List Line) (last : State) (store : Stored) (disk : Disk) : Type 0 where
  pub earlier : List Write
  pub held : Held
  pub wrote : IsWrittenBy began earlier held history
  pub carries : CarriesState names began.options last held store disk
