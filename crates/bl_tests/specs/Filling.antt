-- Entries of memories that are flushed in tests.
use Rattle.std.specs.Prelude.{◌≡◌, ℕ, List}
use Rattle.bl_entry.specs.Entries.{EntriesUpTo, IsProper}
use Rattle.bl_entry.specs.declared.key.Entry.{Entry}
use Rattle.bl_out.specs.Written.{IsPlainKind}
use Rattle.bl_flush.specs.Jobs.{ArePutsAndDeletions}

-- a proper put or deletion at this sequence
pub record IsWrittenAt (seq : ℕ) (e : Entry) : Type 0 where
  pub proper : IsProper e
  pub kind : IsPlainKind e.key.kind
  pub seq_is : e.key.seq ≡ seq

-- proper puts and deletions, none of a later sequence than this one
pub record IsFilled (last : ℕ) (es : List Entry) : Type 0 where
  pub written : ArePutsAndDeletions es
  pub up_to : EntriesUpTo last es
