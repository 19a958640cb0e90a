-- What calls that read a store answer.
use Rattle.std.specs.Prelude.{◌≡◌, ◌↔◌, ℕ, List, false, Option, Result, Err, IfOk, OnErr, IsErrOf}
use Rattle.std.specs.Option.{option_map}
use Rattle.bl_site.specs.Causes.{Rose}
use Rattle.bl_site.specs.Disk.{Disk, Name, folder_of}
use Rattle.bl_site.specs.declared.site.Site.{Ghosts}
use Rattle.bl_entry.specs.declared.key.Entry.{Entry}
use Rattle.bl_entry.specs.declared.run.RunErr.{RunErr}
use Rattle.bl_entry.specs.Revisions.{Map}
use Rattle.bl_read.specs.Giving.{Gives, View, memories_of}
use Rattle.bl_read.specs.Reading.{IsDamaged}
use Rattle.bl_store.specs.Causes.{of_run}
use Rattle.bl_store.specs.Held.{Held, now_of}
use Rattle.bl_store.specs.Standing.{StandsFor}
use Rattle.bl_store.specs.Stored.{IsInOrder, Stored}
use Rattle.bl_store.specs.declared.error.StoreErr.{StoreErr}
use Rattle.bl_store.specs.declared.error.StoreErr.TheVariants.{Disk as DiskFailed, Corrupt, NoSnapshot}
use Rattle.bl_store.specs.declared.read.At.{At}
use Rattle.bl_store.specs.declared.read.At.TheVariants.{Snapshot}
use Rattle.bl_store.specs.declared.store.Waiting.{Waiting}

-- the memory that waits, where one does
abbrev pub waiting_in : Option Waiting → Option (List Entry)
waiting_in o = option_map (λ w. w.memory) o

-- what readers have of a store: its version, and the memories beside it
abbrev pub view_of : Stored → View
view_of s = record { version = s.version; memories = memories_of (waiting_in s.waiting) s.memory }

-- The store gives readers this map: its version in the folder, with its memories, gives it at the last sequence.
abbrev pub GivesMap : Map → Stored → Disk → Type 0
GivesMap m s disk = Gives (folder_of disk) (view_of s) s.last m

-- A store that stands on the disk for what it holds, and is not broken, gives readers the map after all its writes.
abbrev pub StoresGiveTheirMap : Type 0
StoresGiveTheirMap = (names : List Name) (held : Held) (s : Stored) (disk : Disk) → IsInOrder s → s.broken ≡ false → StandsFor names held s disk → GivesMap (now_of held) s disk

-- A writing call that failed leaves a store giving readers the map that it held, also where the store is broken then: the write in hand is not seen.
abbrev pub StillGives : {T : Type 0} → Held → Result T StoreErr → Stored → Disk → Type 0
StillGives held result new disk = OnErr result (GivesMap (now_of held) new disk)

-- ---- what is answered

-- A call answers by the map that the store gives readers, whether or not it is broken; and by the map after all writes while it stands on the disk and is not.
pub record AnswersBy {S T : Type 0} (g : Ghosts S) (answer : Map → T) (result : Result T StoreErr) (s : Stored) (site : S) : Type 0 where
  pub given : g.shows → (m : Map) → GivesMap m s (g.disk site) → IfOk result (λ found. found ≡ answer m)
  pub now : g.shows → s.broken ≡ false → (names : List Name) (held : Held) → StandsFor names held s (g.disk site) → IfOk result (λ found. found ≡ answer (now_of held))

-- how reading may fail
abbrev pub IsReading : StoreErr → Type 0
IsReading e = (o : RunErr) × (e ≡ of_run o)

-- `Corrupt` names a file of the version that is damaged: it is no table of the size that the version says, or lacks a value that a table names. So it never comes where the store gives readers some map, nor while it stands on the disk and is not broken. `Disk` comes only where the disk failed in this call.
pub record RefusesReading {S T : Type 0} (g : Ghosts S) (result : Result T StoreErr) (s : Stored) (site after : S) : Type 0 where
  pub damaged : g.shows → (name : Name) (place : ℕ) → result ≡ Err (Corrupt name place) → IsDamaged (folder_of (g.disk site)) s.version name
  pub given : g.shows → (m : Map) → GivesMap m s (g.disk site) → (name : Name) (place : ℕ) → result ≡ Err (Corrupt name place) → ⊥
  pub now : g.shows → s.broken ≡ false → (names : List Name) (held : Held) → StandsFor names held s (g.disk site) → (name : Name) (place : ℕ) → result ≡ Err (Corrupt name place) → ⊥
  pub disk : IsErrOf result DiskFailed → Rose (g.disk_faults site) (g.disk_faults after)

-- No snapshot is live: where one is asked for, this is answered with its number, and else never.
abbrev pub AsksSnapshot : {T : Type 0} → At → Result T StoreErr → Type 0
AsksSnapshot at result = (n : ℕ) → (result ≡ Err (NoSnapshot n)) ↔ (at ≡ Snapshot n)
