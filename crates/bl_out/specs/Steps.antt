-- The parts of which taking an entry and sealing a file are made.
use Rattle.std.specs.Prelude.{◌≡◌, ◌⊎◌, ℕ, ◌+◌, ◌^◌, not, Bool, true, false, [], ◌∷◌, ◌++◌, length, Result, IfErr, IsErrOf, IsSomeAnd, if◌then◌else◌}
use Rattle.bl_site.specs.Causes.{Rose}
use Rattle.bl_site.specs.Disk.{Name}
use Rattle.bl_site.specs.Quiet.{TellsNothing}
use Rattle.bl_site.specs.declared.site.Site.{Ghosts}
use Rattle.bl_entry.specs.declared.key.Entry.{Entry}
use Rattle.bl_entry.specs.Entries.{last_of}
use Rattle.bl_index.specs.declared.index.BlobIndex.{BlobIndex}
use Rattle.bl_names.specs.Names.{name_of}
use Rattle.bl_out.specs.Causes.{IsAddCause}
use Rattle.bl_out.specs.Held.{name_in}
use Rattle.bl_out.specs.Outputs.{Out, OutBlob, close_blob, close_table, entry_behind, new_blob, new_table, next_file, on_last, passes, put_entry, put_record, record_of}
use Rattle.bl_out.specs.Quiet.{TouchesOnly}
use Rattle.bl_out.specs.States.{BlobHand, State, names_of}
use Rattle.bl_out.specs.declared.error.JobErr.{JobErr}
use Rattle.bl_out.specs.declared.error.JobErr.TheVariants.{Disk, Full, OutOfMemory}

-- ---- what becomes of an output

-- its last table is closed
abbrev pub closed_last : Out → Out
closed_last o = record o { tables = on_last close_table o.tables }

-- a table of this number begins
abbrev pub with_table : ℕ → Out → Out
with_table number o = record o { tables = o.tables ++ new_table number ∷ []; drawn = o.drawn ++ number ∷ [] }

-- where a table is to begin, the last one is closed before
abbrev pub with_room : Bool → ℕ → Out → Out
with_room begins number o = if begins then with_table number (closed_last o) else o

-- an entry more in its last table
abbrev pub with_entry : Entry → Out → Out
with_entry e o = record o { tables = on_last (put_entry e) o.tables }

-- a blob file of this number begins
abbrev pub with_blob : ℕ → Out → Out
with_blob number o = record o { blobs = o.blobs ++ new_blob number ∷ []; drawn = o.drawn ++ number ∷ [] }

-- where there is none in hand
abbrev pub with_blob_room : Bool → ℕ → Out → Out
with_blob_room in_hand number o = if in_hand then o else with_blob number o

-- the value of an entry more in a blob file
abbrev pub store_value : Entry → OutBlob → OutBlob
store_value e b = record b { records = b.records ++ record_of e ∷ [] }

-- the value of an entry more in its last blob file
abbrev pub with_value : Entry → Out → Out
with_value e o = record o { blobs = on_last (store_value e) o.blobs }

-- its last blob file is closed
abbrev pub closed_blob : Out → Out
closed_blob o = record o { blobs = on_last close_blob o.blobs }

-- there is a last blob file that is not closed
abbrev pub has_blob : Out → Bool
has_blob o = passes (λ b. not b.closed) (last_of o.blobs)

-- A large value goes to the last blob file, which may begin with this number, and is closed once it has its size; the entry with its index goes into the last table.
abbrev pub with_large : ℕ → Entry → Out → Out
with_large next e o =
    let p = with_blob_room (has_blob o) next o in
    record p { tables = on_last (put_entry (entry_behind (last_of p.blobs) e)) p.tables; blobs = on_last (put_record o.options e) p.blobs }

-- An entry, whose value is large or not.
abbrev pub with_written : Bool → ℕ → Entry → Out → Out
with_written large next e o = if large then with_large next e o else with_entry e o

-- the index of an entry's value, as the next record of the blob file in hand
abbrev pub index_at : BlobHand → Entry → BlobIndex
index_at h e = record { file = h.number; offset = 30 + h.totals.bytes + 32 + length e.key.user; size = length e.value }

-- its next file is sealed
abbrev pub sealed_one : Out → Out
sealed_one o = record o { sealed = o.sealed + 1 }

-- the file that is sealed next has this name
abbrev pub IsNext : Name → Out → Type 0
IsNext name o = IsSomeAnd (next_file o) (λ f. name ≡ name_of (name_in f))

-- ---- what a part of a call does

-- the options, whether all entries go into one table, and how many files are sealed are as they were
pub record Keeps (old new : State) : Type 0 where
  pub options : new.options ≡ old.options
  pub one_table : new.one_table ≡ old.one_table
  pub sealed : new.sealed ≡ old.sealed

-- Whatever it answers, it touches only files of the numbers drawn; it has failed from when it asked the folder on, or because no number was left; before that nothing was asked or drawn, and only memory may have run out. It tells nothing, is refused for the causes of taking an entry alone, and for `Disk` only where that count rose.
pub record Acts {S T : Type 0} (g : Ghosts S) (result : Result T JobErr) (old new : State) (site_old site_new : S) : Type 0 where
  pub touches : TouchesOnly g (names_of new.drawn) site_old site_new
  pub tells_nothing : TellsNothing g site_old site_new
  pub changes : (g.changes site_new ≡ g.changes site_old) ⊎ Rose (g.changes site_old) (g.changes site_new)
  pub was_set : old.failed ≡ true → new.failed ≡ true
  pub asked : new.failed ≡ true → (old.failed ≡ true) ⊎ (Rose (g.changes site_old) (g.changes site_new) ⊎ IsErrOf result (Full (10 ^ 15)))
  pub still : new.failed ≡ false → (site_new ≡ site_old) × (new.drawn ≡ old.drawn)
  pub memory : IfErr result (λ e. new.failed ≡ false → e ≡ OutOfMemory)
  pub causes : IfErr result IsAddCause
  pub disk : IsErrOf result Disk → Rose (g.disk_faults site_old) (g.disk_faults site_new)
