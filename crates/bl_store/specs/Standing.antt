-- How a store stands on a disk.
use Rattle.std.specs.Prelude.{◌≡◌, ◌<◌, ◌≤◌, List, length, take, drop, Option, None, Some, IsSome}
use Rattle.std.specs.List.{AllByRecursion}
use Rattle.bl_site.specs.Disk.{Disk, Folder, Name}
use Rattle.bl_names.specs.Names.{manifest_name}
use Rattle.bl_entry.specs.Revisions.{Map}
use Rattle.bl_entry.specs.Written.{entries_of}
use Rattle.bl_memtab.specs.Filled.{Holds}
use Rattle.bl_wal.specs.LogFile.{log_name}
use Rattle.bl_folder.specs.Flushes.{IsBelow, IsMemoryOf}
use Rattle.bl_folder.specs.Live.{IsLive}
use Rattle.bl_folder.specs.Memories.{IsInBounds}
use Rattle.bl_folder.specs.Stands.{StandsLive}
use Rattle.bl_open.specs.Installations.{switched_at}
use Rattle.bl_open.specs.Steady.{Steady, IsSteady, accepted, durable}
use Rattle.bl_store.specs.Stored.{Stored}
use Rattle.bl_open.specs.Synced.{AreFilesBelow, as_synced}
use Rattle.bl_store.specs.Held.{Held, maps_of}
use Rattle.bl_store.specs.declared.store.Waiting.{Waiting}

-- A waiting memory has the batches below the log in use, which was made as it was switched; where none waits there are none.
abbrev pub HasWaiting : Steady → Option Waiting → Type 0
HasWaiting s None = s.below ≡ 0
HasWaiting s (Some w) = IsMemoryOf (take s.below s.holding.batches) w.memory × (w.last ≡ switched_at s) × (w.log ≡ s.log.number)

-- the numbers of its files are below the next one
pub record IsAhead (store : Stored) : Type 0 where
  pub version : IsBelow store.next store.version
  pub manifest : store.manifest.number < store.next
  pub log : store.log.number < store.next

-- The store has what a steady disk holds: the version, the manifest and the log in use, the last sequence, and in its memories the batches of the logs.
pub record Carries (s : Steady) (store : Stored) : Type 0 where
  pub live : s.holding.live ≡ record { version = store.version; standing = store.standing }
  pub manifest : s.manifest ≡ store.manifest
  pub log : s.log ≡ store.log
  pub last : s.holding.last ≡ store.last
  pub waiting : HasWaiting s store.waiting
  pub memory : Holds store.memory (entries_of (drop s.below s.holding.batches)) store.last
  pub fit : AllByRecursion IsInBounds (drop s.below s.holding.batches)
  pub ahead : IsAhead store

-- The store stands on the disk for what it holds: the disk, as if the files of these names had been synced, is steady for its maps with all its writes, of which at least so many are durable.
pub record StandsFor (names : List Name) (held : Held) (store : Stored) (disk : Disk) : Type 0 where
  pub steady : Steady
  pub is_steady : IsSteady (maps_of held) steady (as_synced names disk)
  pub carries : Carries steady store
  pub writes : accepted steady ≡ length held.writes
  pub durable : held.durable ≤ durable steady
  pub found : AreFilesBelow store.next names

-- The store stands so as if some tables and blob files of lower numbers had been synced.
abbrev pub StandsAsSynced : Held → Stored → Disk → Type 0
StandsAsSynced held store disk = (names : List Name) × StandsFor names held store disk

-- The folder stands for the map, and its live part is what the store has: its manifest, its version, and what stands beside that.
pub record IsOnDisk (store : Stored) (m : Map) (folder : Folder) : Type 0 where
  pub live : IsLive folder store.manifest.number (record { version = store.version; standing = store.standing })
  pub stands : StandsLive folder m

-- the files that it writes are there
pub record IsThere (store : Stored) (disk : Disk) : Type 0 where
  pub manifest : IsSome (disk (manifest_name store.manifest.number))
  pub log : IsSome (disk (log_name store.log.number))
