-- What a contract sees of a store.
use Rattle.std.specs.Prelude.{◌≡◌, ℕ, ◌<◌, ◌≤◌, ◌^◌, Bool, false, List, Option, IfSome}
use Rattle.bl_names.specs.Names.{IsNumber}
use Rattle.bl_entry.specs.declared.key.Entry.{Entry}
use Rattle.bl_build.specs.Listing.{Listing}
use Rattle.bl_build.specs.declared.meta.Standing.{Standing}
use Rattle.bl_wal.specs.LogFile.{LogFile}
use Rattle.bl_manifest.specs.ManifestFile.{ManifestFile}
use Rattle.bl_flush.specs.Jobs.{ArePutsAndDeletions}
use Rattle.bl_open.specs.Replaying.{IsFilled}
use Rattle.bl_store.specs.declared.store.Waiting.{Waiting}

pub record Stored : Type 0 where
  -- the version, and what the manifest says beside it
  pub version : Listing
  pub standing : Standing
  pub manifest : ManifestFile
  -- the log in use
  pub log : LogFile
  -- the number that the next new file gets
  pub next : ℕ
  -- the last sequence
  pub last : ℕ
  -- the memory in use, and one that waits to be flushed
  pub memory : List Entry
  pub waiting : Option Waiting
  -- a writing call has failed
  pub broken : Bool

-- a memory that waits has proper puts and deletions; the last sequence as it was switched, and the number of the log made then, are in bounds
pub record IsWaiting (w : Waiting) : Type 0 where
  pub plain : ArePutsAndDeletions w.memory
  pub last : w.last < 2 ^ 56
  pub log : IsNumber w.log

-- While no writing call has failed, no call of the log or of the manifest has, and the memory in use has exactly what some batches write. Numbers are in bounds.
pub record IsInOrder (s : Stored) : Type 0 where
  pub log_number : IsNumber s.log.number
  pub manifest_number : IsNumber s.manifest.number
  pub log : s.broken ≡ false → s.log.failed ≡ false
  pub manifest : s.broken ≡ false → s.manifest.failed ≡ false
  pub filled : s.broken ≡ false → IsFilled s.memory s.last
  pub waits : IfSome s.waiting IsWaiting
  pub last : s.last < 2 ^ 56
  pub next : s.next ≤ 10 ^ 15
