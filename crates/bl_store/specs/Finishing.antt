-- What stands once all writes of a store are durable.
use Rattle.std.specs.Prelude.{◌≡◌, ℕ, false, List, [], length}
use Rattle.bl_site.specs.Disk.{Cut, Disk, IsCut, MayLeave}
use Rattle.bl_site.specs.declared.site.Site.{Ghosts}
use Rattle.bl_folder.specs.Settled.{IsSettled, NeededAreSynced}
use Rattle.bl_open.specs.SteadyCuts.{IsLeftFor}
use Rattle.bl_store.specs.Held.{Held, now_of}
use Rattle.bl_store.specs.Standing.{StandsFor}
use Rattle.bl_store.specs.Stored.{IsInOrder, Stored}

-- every write is durable
abbrev pub AllAreDurable : Held → Type 0
AllAreDurable held = held.durable ≡ length held.writes

-- No needed file of the store has an unsynced byte: CURRENT, its manifest, the logs from its log number on, and the tables and blob files of its version.
abbrev pub IsAllSynced : Stored → Disk → Type 0
IsAllSynced s disk = NeededAreSynced disk s.manifest.number (record { version = s.version; standing = s.standing })

-- So it is where a store stands on the disk, is not broken, and all its writes are durable;
abbrev pub DurableStoresAreSynced : Type 0
DurableStoresAreSynced = (held : Held) (s : Stored) (disk : Disk) → IsInOrder s → s.broken ≡ false → AllAreDurable held → StandsFor [] held s disk → IsAllSynced s disk

-- and a cut of that disk leaves the map after all writes, whatever checksum may match by chance, also where the store is broken.
abbrev pub DurableStoresAreLeft : Type 0
DurableStoresAreLeft = (held : Held) (s : Stored) (disk : Disk) (told : List ℕ) (c : Cut) → AllAreDurable held → StandsFor [] held s disk → IsCut disk told c → IsLeftFor (now_of held) c

-- No needed file has an unsynced byte, the disk is settled and, where no name call is in doubt, every cut from now on leaves the map after all writes, whatever checksum may match by chance.
pub record IsAtRest {S : Type 0} (g : Ghosts S) (held : Held) (s : Stored) (site : S) : Type 0 where
  pub synced : IsAllSynced s (g.disk site)
  pub settled : IsSettled (g.disk site)
  pub left : g.certain site → (c : Cut) → MayLeave (g.may_be site) (g.told site) c → IsLeftFor (now_of held) c
