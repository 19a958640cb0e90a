-- The machine's state: what the store means at one moment.
use Rattle.std.specs.Prelude.{ℕ, Bool, false}
use Rattle.bl_entry.specs.Revisions.{Map}
use Rattle.bl_build.specs.Listing.{Listing, Ascends, table_rank, blob_number}

pub record State : Type 0 where
  -- from keys to values
  pub now : Map
  -- the tables, and the blob files with their accounts
  pub listing : Listing
  -- a memory waits to be flushed
  pub waits : Bool
  -- a job runs
  pub runs : Bool
  -- the bytes written since memories were last switched, flushed or reopened
  pub buffered : ℕ

-- the state in which a run begins, on a folder that stands for this map and has these files
abbrev pub start : Map → Listing → State
start now listing = record { now = now; listing = listing; waits = false; runs = false; buffered = 0 }

-- the tables ascend by level and then by number, and the blob files by number
pub record IsInOrder (l : Listing) : Type 0 where
  pub tables : Ascends table_rank l.tables
  pub blobs : Ascends blob_number l.blobs
