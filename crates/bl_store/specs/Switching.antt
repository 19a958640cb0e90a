-- How the log in use and the memory are switched.
use Rattle.std.specs.Prelude.{ℕ, ◌+◌, [], Some}
use Rattle.bl_wal.specs.LogFile.{new_log}
use Rattle.bl_store.specs.Stored.{Stored}

-- the store before this number was drawn
abbrev pub undrawn : ℕ → Stored → Stored
undrawn number store = record store { next = number }

-- The log of this number is in use, and new; the memory waits, with the last sequence, and the memory in use has no entry.
abbrev pub switched : ℕ → Stored → Stored
switched number store = record store {
  log = new_log number;
  next = number + 1;
  memory = [];
  waiting = Some (record { memory = store.memory; last = store.last; log = number });
}
