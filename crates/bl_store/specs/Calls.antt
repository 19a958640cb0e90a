-- What calls of a store do.
use Rattle.std.specs.Prelude.{◌≡◌, ◌⊎◌, ℕ, ◌+◌, ◌<◌, ◌≤◌, ◌^◌, nat_le, Bool, true, false, List, [], ◌∷◌, ◌++◌, length, take, sum_by, Option, None, Some, Result, Err, IfErr, IsSome, OnOk, OnErr, IsErrOf, if◌then◌else◌}
use Rattle.bl_site.specs.Causes.{Rose}
use Rattle.bl_site.specs.Disk.{Disk, Name, folder_of, written_of}
use Rattle.bl_site.specs.Calls.{LeavesOnly}
use Rattle.bl_site.specs.Quiet.{TellsNothing}
use Rattle.bl_site.specs.declared.site.Site.{Ghosts}
use Rattle.bl_names.specs.Names.{IsNameOf, IsNumber, manifest_name}
use Rattle.bl_names.specs.declared.name.FileName.{FileName}
use Rattle.bl_entry.specs.declared.batch.Operation.{Operation}
use Rattle.bl_entry.specs.declared.key.Entry.{Entry}
use Rattle.bl_entry.specs.Written.{entries_from}
use Rattle.bl_memtab.specs.Filled.{Holds}
use Rattle.bl_memtab.specs.Tables.{size}
use Rattle.bl_records.specs.Chance.{NoChanceMatch}
use Rattle.bl_wal.specs.LogFile.{log_name}
use Rattle.bl_flush.specs.Jobs.{next_of}
use Rattle.bl_folder.specs.Numbers.{number_of}
use Rattle.bl_folder.specs.Settled.{IsSettled}
use Rattle.bl_open.specs.SteadyCuts.{LeavesMap}
use Rattle.bl_store.specs.Stored.{Stored}
use Rattle.bl_store.specs.Causes.{IsMaking, IsWriting, OrBroken}
use Rattle.bl_store.specs.Held.{Held, maps_of}
use Rattle.bl_store.specs.Standing.{IsThere, StandsFor}
use Rattle.bl_store.specs.declared.error.StoreErr.{StoreErr}
use Rattle.bl_store.specs.declared.error.StoreErr.TheVariants.{Disk as DiskFailed, OutOfMemory, Full}
use Rattle.bl_store.specs.declared.store.Waiting.{Waiting}

-- ---- how much is in memory, and which numbers are drawn

-- the bytes of a memory
abbrev pub bytes_in : List Entry → ℕ
bytes_in memory = sum_by size memory

-- the bytes of a value, and of an operation with its key and its sequence
abbrev pub put_length : Option (List ℕ) → ℕ
put_length None = 0
put_length (Some value) = length value

abbrev pub bytes_put : Operation → ℕ
bytes_put o = length o.key + 8 + put_length o.put

-- what operations add to a memory
abbrev pub bytes_of : List Operation → ℕ
bytes_of operations = sum_by bytes_put operations

-- the memory in use has reached its bound
abbrev pub is_full : Stored → Bool
is_full s = nat_le s.standing.options.write_buffer (bytes_in s.memory)

-- the next number once the waiting memory, if there is one, is flushed
abbrev pub next_flushed : Stored → ℕ
next_flushed s = from s.waiting
  where
    from : Option Waiting → ℕ
    from None = s.next
    from (Some w) = next_of s.standing.options [] s.next w.memory

-- once room is made besides, with a log more
abbrev pub next_with_room : Stored → ℕ
next_with_room s = if is_full s then next_flushed s + 1 else s.next

-- and once the memory in use is switched and flushed too, where it has an entry
abbrev pub next_emptied : Stored → ℕ
next_emptied s = from s.memory
  where
    from : List Entry → ℕ
    from [] = next_flushed s
    from (e ∷ es) = next_of s.standing.options [] (next_flushed s + 1) (e ∷ es)

-- ---- what is answered

-- A writing call breaks the store exactly where it answers `Disk`, or `OutOfMemory` once the folder was asked for a change. Where memory ran out before that, the store is as it was, but for numbers that were drawn.
pub record Breaks {S T : Type 0} (g : Ghosts S) (result : Result T StoreErr) (old new : Stored) (site after : S) : Type 0 where
  pub disk : IsErrOf result DiskFailed → new.broken ≡ true
  pub asked : IsErrOf result OutOfMemory → new.broken ≡ true → Rose (g.changes site) (g.changes after)
  pub unasked : IsErrOf result OutOfMemory → new.broken ≡ false → (after ≡ site) × (new ≡ record old { next = new.next })
  pub full : (n : ℕ) → result ≡ Err (Full n) → new.broken ≡ false
  pub ok : OnOk result (new.broken ≡ false)

-- ---- what stands then

-- What a writing call leaves of a store that stood on the disk for what it held, where it adds these writes at Ok, and all are durable then, or as many as before.
pub record LeavesStore {T : Type 0} (names : List Name) (held done : Held) (result : Result T StoreErr) (new : Stored) (disk : Disk) : Type 0 where
  -- at Ok it stands for what it holds then, and after a failure for what it held, unless it is broken;
  pub ok : OnOk result (StandsFor names done new disk)
  pub err : OnErr result (new.broken ≡ false → StandsFor names held new disk)
  -- and the disk is settled, unless a checksum matches by chance.
  pub settled : names ≡ [] → NoChanceMatch (folder_of disk) (written_of disk) → IsSettled disk

-- A cut during a call leaves the map after some first writes, of those held or of those held at its end, all durable ones among them.
abbrev pub CutsOfCall : {S : Type 0} → Ghosts S → Held → Held → S → S → Type 0
CutsOfCall g held done old new = LeavesOnly g.clock g.left_since old new (LeavesMap (maps_of done) held.durable (length done.writes) (g.told old))

-- ---- what is left alone

-- a name that the store writes: its log, its manifest, or a file of a number that it has drawn
abbrev pub IsOwn : Stored → Stored → Name → Type 0
IsOwn old new name = (name ≡ log_name old.log.number)
    ⊎ ((name ≡ manifest_name old.manifest.number) ⊎ ((f : FileName) × IsNameOf name f × (old.next ≤ number_of f) × (number_of f < new.next)))

-- Nothing is told, every other file is as it was, and the files that the store writes are there; at Ok no name call has come into doubt.
pub record WritesOwn {S T : Type 0} (g : Ghosts S) (result : Result T StoreErr) (old new : Stored) (site after : S) : Type 0 where
  pub tells_nothing : TellsNothing g site after
  pub others : g.shows → (name : Name) → (IsOwn old new name → ⊥) → g.disk after name ≡ g.disk site name
  pub there : g.shows → IsThere new (g.disk after)
  pub certain : g.shows → g.certain site → OnOk result (g.certain after)

-- ---- room

-- The memory in use has no entry, and the one that was in use waits; the log in use is the one that was made last.
pub record HasRoom (old new : Stored) : Type 0 where
  pub number : IsNumber new.log.number
  pub log : new.next ≡ new.log.number + 1
  pub above : old.next ≤ new.log.number
  pub manifest : new.manifest.number ≡ old.manifest.number
  pub memory : new.memory ≡ []
  pub waiting : IsSome new.waiting
  pub last : new.last ≡ old.last
  pub next : new.next ≡ next_flushed old + 1
  pub options : new.standing.options ≡ old.standing.options

-- ---- a write

-- The batch went into the log and the memory in use.
pub record HasAppended (operations : List Operation) (old new : Stored) : Type 0 where
  pub last : new.last ≡ old.last + length operations
  pub bytes : bytes_in new.memory ≡ bytes_in old.memory + bytes_of operations
  pub rest : new ≡ record old { log = new.log; last = new.last; memory = new.memory }

-- Of the operations some first ones went into the memory.
pub record HasTaken (operations : List Operation) (last : ℕ) (old new : List Entry) : Type 0 where
  pub count : ℕ
  pub holds : (written : List Entry) → Holds old written last → Holds new (written ++ entries_from (last + 1) (take count operations)) (last + length (take count operations))

-- The memory that was in use waits, and the batch went into a new one.
pub record HasWrittenBehindRoom (operations : List Operation) (old new : Stored) : Type 0 where
  pub last : new.last ≡ old.last + length operations
  pub next : new.next ≡ next_flushed old + 1
  pub bytes : bytes_in new.memory ≡ bytes_of operations
  pub waits : IsSome new.waiting
  pub options : new.standing.options ≡ old.standing.options

-- The batch went into the memory in use: where that was full it waits, and a new one is in use.
pub record HasWritten (operations : List Operation) (old new : Stored) : Type 0 where
  pub last : new.last ≡ old.last + length operations
  pub next : new.next ≡ next_with_room old
  pub bytes : bytes_in new.memory ≡ (if is_full old then 0 else bytes_in old.memory) + bytes_of operations
  pub waits : is_full old ≡ true → IsSome new.waiting
  pub room : is_full old ≡ false → (new.waiting ≡ old.waiting) × (new.version ≡ old.version)
  pub options : new.standing.options ≡ old.standing.options

-- `Full` is answered with the last sequence exactly where the batch would pass the greatest one, and else with 10 ^ 15 exactly where room takes more numbers than are left, unless another failure comes before.
pub record RefusesWrite {T : Type 0} (operations : List Operation) (old : Stored) (result : Result T StoreErr) : Type 0 where
  pub sequence : old.broken ≡ false → 2 ^ 56 ≤ old.last + length operations → result ≡ Err (Full old.last)
  pub full : (n : ℕ) → result ≡ Err (Full n) → ((n ≡ old.last) × (2 ^ 56 ≤ old.last + length operations)) ⊎ ((n ≡ 10 ^ 15) × (10 ^ 15 < next_with_room old))
  pub fits : OnOk result ((old.last + length operations < 2 ^ 56) × (next_with_room old ≤ 10 ^ 15))
  pub causes : IfErr result (OrBroken IsWriting)

-- ---- a flush

-- The memory in use was switched and flushed.
pub record HasFlushedInUse (old new : Stored) : Type 0 where
  pub memory : new.memory ≡ []
  pub waiting : new.waiting ≡ None
  pub last : new.last ≡ old.last
  pub next : new.next ≡ next_of old.standing.options [] (old.next + 1) old.memory
  pub options : new.standing.options ≡ old.standing.options

-- `Full` is answered with 10 ^ 15 alone, and exactly where the flush takes more numbers than are left, unless another failure comes before.
pub record RefusesFlush {T : Type 0} (old : Stored) (result : Result T StoreErr) : Type 0 where
  pub full : (n : ℕ) → result ≡ Err (Full n) → (n ≡ 10 ^ 15) × (10 ^ 15 < next_emptied old)
  pub fits : OnOk result (next_emptied old ≤ 10 ^ 15)
  pub causes : IfErr result (OrBroken IsMaking)

-- No entry is in memory.
pub record HasEmptied (old new : Stored) : Type 0 where
  pub memory : new.memory ≡ []
  pub waiting : new.waiting ≡ None
  pub last : new.last ≡ old.last
  pub next : new.next ≡ next_emptied old
  pub options : new.standing.options ≡ old.standing.options
