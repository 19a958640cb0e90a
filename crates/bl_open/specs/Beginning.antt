-- What an opening begins with behind its barrier, and what it leaves.
use Rattle.std.specs.Prelude.{◌≡◌, ℕ, ◌+◌, ◌^◌, ◌<◌, ◌≤◌, List, [], ◌∷◌, length, false, None, Some, Ok}
use Rattle.bl_site.specs.Disk.{Disk, Name}
use Rattle.bl_names.specs.declared.name.FileName.TheVariants.{Table}
use Rattle.bl_names.specs.Names.{IsNumber, name_of}
use Rattle.bl_entry.specs.declared.key.Entry.{Entry}
use Rattle.bl_entry.specs.Revisions.{Map}
use Rattle.bl_build.specs.Listing.{Listing}
use Rattle.bl_build.specs.Restoring.{Restored}
use Rattle.bl_build.specs.Snapshots.{snapshot}
use Rattle.bl_build.specs.Versions.{apply}
use Rattle.bl_flush.specs.Jobs.{ArePutsAndDeletions, next_of}
use Rattle.bl_out.specs.Flushes.{Flushed, IsFlush, job_edit}
use Rattle.bl_wal.specs.Held.{HoldsBatches}
use Rattle.bl_wal.specs.LogFile.{log_name, new_log}
use Rattle.bl_folder.specs.Flushes.{IsBelow}
use Rattle.bl_folder.specs.Holding.{Holding}
use Rattle.bl_open.specs.Flushing.{IsLoaded}
use Rattle.bl_open.specs.Found.{AreAllBelow, Found, RestsAs}
use Rattle.bl_open.specs.Installations.{IsInstalled}
use Rattle.bl_open.specs.Steady.{Maps, IsSteady}
use Rattle.bl_open.specs.SteadyCalls.{begun}
use Rattle.bl_open.specs.Synced.{AreFilesBelow, as_synced}
use Rattle.bl_open.specs.declared.begin.Loaded.{Loaded}
use Rattle.bl_open.specs.declared.begin.Opened.{Opened}

-- what was loaded is in bounds: the first number is one that a file may have or the one behind, the sequences are below 2 ^ 56, and the memory has puts and deletions alone
pub record IsBounded (l : Loaded) : Type 0 where
  pub some : 1 ≤ l.first
  pub most : l.first ≤ 10 ^ 15
  pub last : l.last < 2 ^ 56
  pub plain : ArePutsAndDeletions l.memory

-- in a fresh folder no entry was found, and else the live part is what was found
abbrev pub IsFoundIn : Found → Holding → List Entry → Type 0
IsFoundIn None h memory = memory ≡ []
IsFoundIn (Some found) h memory = h.live ≡ found.1

-- What is held of the disk was loaded, and makes this map.
pub record HoldsLoaded (h : Holding) (m : Map) (l : Loaded) (disk : Disk) : Type 0 where
  pub loaded : IsLoaded h m l.memory l.first disk
  pub version_is : h.live.version ≡ l.version
  pub options_are : h.live.standing.options ≡ l.options
  pub last_is : h.last ≡ l.last

-- The disk rests as what was found, with this map; what is held of it was loaded, and the first number for a new file is above all that was found.
pub record StartsFrom (found : Found) (h : Holding) (m : Map) (l : Loaded) (disk : Disk) : Type 0 where
  pub rests : RestsAs found m disk
  pub holds : HoldsLoaded h m l disk
  pub found_in : IsFoundIn found h l.memory
  pub below : AreAllBelow l.first found

-- the number of the first file that an opening makes, behind the manifest's: that of its table, or that of its log where no entry was found
abbrev pub first_made : List Entry → ℕ → ℕ
first_made [] first = first + 1
first_made (e ∷ es) first = first + 2

-- the first file that an opening makes: its table, or its log where no entry was found
abbrev pub first_file : List Entry → ℕ → Name
first_file [] first = log_name (first + 1)
first_file (e ∷ es) first = name_of (Table (first + 2))

abbrev pub live_of : Opened → Restored
live_of o = record { version = o.version; standing = o.standing }

-- What was opened is in bounds, whatever a site shows: the next number for a new file is one that a file may have or the one behind, and the last sequence is below 2 ^ 56. The manifest and the log have numbers of files, no call of them has failed, and the log is that of the log number, from its start.
pub record IsWithin (o : Opened) : Type 0 where
  pub some : 1 ≤ o.standing.next_file
  pub most : o.standing.next_file ≤ 10 ^ 15
  pub last : o.standing.last_sequence < 2 ^ 56
  pub manifest : IsNumber o.manifest.number
  pub usable : o.manifest.failed ≡ false
  pub log : IsNumber o.wal.number
  pub wal : o.wal ≡ new_log o.standing.log_number

-- The manifest has the first number and the log the one behind it; what stands beside the version is what was loaded, and all is in bounds.
pub record IsNumbered (l : Loaded) (o : Opened) : Type 0 where
  pub within : IsWithin o
  pub manifest : o.manifest.number ≡ l.first
  pub log : o.standing.log_number ≡ l.first + 1
  pub options : o.standing.options ≡ l.options
  pub last : o.standing.last_sequence ≡ l.last

-- The version is this one with what a flush made of the memory: at most one table, at level 0, and blob files, and no file of an empty memory. Each has one number, the first of them behind the log's, and behind the last one comes the next number for a new file.
pub record AddsFlush (version : Listing) (memory : List Entry) (o : Opened) : Type 0 where
  pub files : Flushed
  pub flush : IsFlush o.standing.options.min_blob_size (o.standing.log_number + 1) [] memory files
  pub none : memory ≡ [] → files ≡ record { tables = []; blobs = [] }
  pub version_is : apply version (job_edit files) ≡ Ok o.version
  pub next : o.standing.next_file ≡ o.standing.log_number + 1 + (length files.tables + length files.blobs)
  pub wanted : o.standing.next_file ≡ next_of o.standing.options [] (o.standing.log_number + 1) memory

-- The log has the number behind the manifest's. The next number for a new file is above both and above those of the version, and at most 10^15.
pub record AreNumbered (o : Opened) : Type 0 where
  pub log : o.standing.log_number ≡ o.manifest.number + 1
  pub next : o.standing.log_number < o.standing.next_file
  pub version : IsBelow o.standing.next_file o.version
  pub most : o.standing.next_file ≤ 10 ^ 15

-- CURRENT and its manifest, all of it synced, restore what was opened, and the log in use is that of the log number, and empty. No call of the manifest or of the log has failed.
pub record IsInPlace (o : Opened) (disk : Disk) : Type 0 where
  pub installed : IsInstalled o.manifest.number (live_of o) disk
  pub usable : o.manifest.failed ≡ false
  pub wal : o.wal ≡ new_log o.standing.log_number
  pub log : HoldsBatches disk o.wal [] 0
  pub numbers : AreNumbered o

-- A store begins on the disk, with the opened manifest and log, and with tables and blob files that alone make the first of the maps.
pub record IsOpened (maps : Maps) (o : Opened) (disk : Disk) : Type 0 where
  pub holding : Holding
  pub live : holding.live ≡ live_of o
  pub batches : holding.batches ≡ []
  pub steady : IsSteady maps (begun o.manifest (snapshot o.version o.standing ∷ []) o.standing.log_number holding 0) disk

-- A store begins on the disk as if some tables and blob files that it had before had been synced: those of lower numbers than the manifest.
pub record IsOpenedAsSynced (maps : Maps) (o : Opened) (disk : Disk) : Type 0 where
  pub names : List Name
  pub before : AreFilesBelow o.manifest.number names
  pub opened : IsOpened maps o (as_synced names disk)
