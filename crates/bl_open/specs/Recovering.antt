-- What an opening reads of a folder, and what it answers.
use Rattle.std.specs.Prelude.{◌≡◌, ◌⊎◌, ℕ, ◌+◌, ◌^◌, ◌<◌, List, [], Result, Ok, Err}
use Rattle.bl_site.specs.Disk.{Cut, Folder, Name, folder_of}
use Rattle.bl_site.specs.Calls.{LeavesOnly}
use Rattle.bl_site.specs.declared.site.Site.{Ghosts}
use Rattle.bl_build.specs.Restoring.{Restored}
use Rattle.bl_entry.specs.Batches.{Batch}
use Rattle.bl_entry.specs.declared.key.Entry.{Entry}
use Rattle.bl_edit.specs.Options.{Values}
use Rattle.bl_build.specs.Listing.{nothing}
use Rattle.bl_flush.specs.Jobs.{next_of}
use Rattle.bl_folder.specs.Live.{IsFresh, IsLive}
use Rattle.bl_folder.specs.Logs.{HaveBatches}
use Rattle.bl_folder.specs.Numbers.{IsFirstNumber}
use Rattle.bl_folder.specs.Flushes.{IsMemoryOf}
use Rattle.bl_open.specs.Barrier.{FindsOrLeaves, IsNewFile, IsOnEitherSide, LeavesFound}
use Rattle.bl_open.specs.Beginning.{AddsFlush}
use Rattle.bl_open.specs.Checks.{AllPass}
use Rattle.bl_open.specs.Damage.{FilesOrLogsFail, LacksLive}
use Rattle.bl_open.specs.Options.{Words, check_options, defaults, given_or}
use Rattle.bl_open.specs.Replaying.{HasReplayedLogs}
use Rattle.bl_open.specs.declared.begin.Loaded.{Loaded}
use Rattle.bl_open.specs.declared.begin.Opened.{Opened}
use Rattle.bl_open.specs.declared.error.OpenErr.{OpenErr}
use Rattle.bl_open.specs.declared.error.OpenErr.TheVariants.{Disk as DiskFailed, Corrupt, Full, Differ, OutOfMemory}

-- the live part of the folder was loaded: its files pass, and the entries of its needed logs are in the memory
pub record HasLoaded (folder : Folder) (manifest : ℕ) (words : Words) (l : Loaded) : Type 0 where
  pub live : Restored
  pub is_live : IsLive folder manifest live
  pub version_is : live.version ≡ l.version
  pub options_are : live.standing.options ≡ l.options
  pub agree : check_options live.standing.options words ≡ Ok tt
  pub pass : AllPass folder live.version
  pub logs : HasReplayedLogs folder live.standing.log_number live.standing.last_sequence l.memory l.last
  pub first : IsFirstNumber folder live.version live.standing.next_file l.first

-- An opening with these words is refused: where the folder lacks a live part, by that place; else where a word is not the stored value, by the first such option; else where what the live part names does not hold, by that place.
abbrev pub IsRefused : Folder → Words → OpenErr → Type 0
IsRefused folder words (Corrupt name place) =
    LacksLive folder name place
    ⊎ ((manifest : ℕ) × ((live : Restored) × IsLive folder manifest live × (check_options live.standing.options words ≡ Ok tt) × FilesOrLogsFail folder live name place))
IsRefused folder words (Differ option stored asked) =
    (manifest : ℕ) × ((live : Restored) × IsLive folder manifest live × (check_options live.standing.options words ≡ Err (Differ option stored asked)))
IsRefused folder words DiskFailed = ⊥
IsRefused folder words (Full next) = ⊥
IsRefused folder words OutOfMemory = ⊥

-- an answer that tells what is wrong with the folder or with the words
abbrev pub IsRefusal : OpenErr → Type 0
IsRefusal (Corrupt name place) = Unit {0}
IsRefusal (Differ option stored asked) = Unit {0}
IsRefusal DiskFailed = ⊥
IsRefusal (Full next) = ⊥
IsRefusal OutOfMemory = ⊥

-- this is answered, unless the disk failed or memory ran out
abbrev pub AnswersOnly : {T : Type 0} → OpenErr → Result T OpenErr → Type 0
AnswersOnly e (Ok x) = ⊥
AnswersOnly e (Err f) = (f ≡ e) ⊎ ((f ≡ DiskFailed) ⊎ (f ≡ OutOfMemory))

-- Corrupt and Differ are answered exactly where the opening is refused so, unless the disk failed or memory ran out.
pub record AnswersAsRefused {T : Type 0} (folder : Folder) (words : Words) (result : Result T OpenErr) : Type 0 where
  pub only : (e : OpenErr) → result ≡ Err e → IsRefusal e → IsRefused folder words e
  pub due : (e : OpenErr) → IsRefused folder words e → AnswersOnly e result

-- A store was begun in a fresh folder with these options, and its manifest has the first number. It has no table and no blob file, and the next number follows the log's.
pub record TakesFresh (folder : Folder) (options : Values) (o : Opened) : Type 0 where
  pub fresh : IsFresh folder
  pub first : IsFirstNumber folder nothing 1 o.manifest.number
  pub version_is : o.version ≡ nothing
  pub options_are : o.standing.options ≡ options
  pub last : o.standing.last_sequence ≡ 0
  pub next : o.standing.next_file ≡ o.standing.log_number + 1

-- It was begun on the live part of a folder: it has its options and the last sequence of its batches, and its version with what a flush made of their operations.
pub record TakesLive (folder : Folder) (o : Opened) : Type 0 where
  pub manifest : ℕ
  pub live : Restored
  pub is_live : IsLive folder manifest live
  pub first : IsFirstNumber folder live.version live.standing.next_file o.manifest.number
  pub options_are : o.standing.options ≡ live.standing.options
  pub batches : List Batch
  pub have : HaveBatches folder live.standing.log_number live.standing.last_sequence batches o.standing.last_sequence
  pub memory : List Entry
  pub memory_of : IsMemoryOf batches memory
  pub adds : AddsFlush live.version memory o

abbrev pub TakesOver : Folder → Words → Opened → Type 0
TakesOver folder words o = TakesFresh folder (given_or defaults words) o ⊎ TakesLive folder o

-- ---- numbers

-- The folder is fresh. From its first number on, a manifest and a log would take one number each, and not both are numbers of files.
pub record IsFullFresh (folder : Folder) : Type 0 where
  pub fresh : IsFresh folder
  pub first : ℕ
  pub is_first : IsFirstNumber folder nothing 1 first
  pub past : 10 ^ 15 < first + 2

-- The folder passes all checks with these words. From its first number on, a manifest, a log and the files of a flush of what the needed logs hold would take one number each, and not all are numbers of files.
pub record IsFullLive (folder : Folder) (words : Words) : Type 0 where
  pub manifest : ℕ
  pub live : Restored
  pub is_live : IsLive folder manifest live
  pub agree : check_options live.standing.options words ≡ Ok tt
  pub pass : AllPass folder live.version
  pub batches : List Batch
  pub last : ℕ
  pub have : HaveBatches folder live.standing.log_number live.standing.last_sequence batches last
  pub memory : List Entry
  pub memory_of : IsMemoryOf batches memory
  pub first : ℕ
  pub is_first : IsFirstNumber folder live.version live.standing.next_file first
  pub past : 10 ^ 15 < next_of live.standing.options [] (first + 2) memory

-- an opening with these words would make more files than there are numbers left
abbrev pub IsFull : Folder → Words → Type 0
IsFull folder words = IsFullFresh folder ⊎ IsFullLive folder words

-- There is a first file of the opening, a new one, unless a cut leaves only what one before the opening might have left. A cut leaves that, but that this file may be there, empty; or what it leaves stands so. Where no name call was in doubt, it finds the files that were there, of which some may have been synced since; or what it leaves stands so.
pub record CutsAtBarrier {S : Type 0} (g : Ghosts S) (stood : Cut → Type 0) (old new : S) : Type 0 where
  pub first : Name
  pub is_new : IsNewFile (folder_of (g.disk old)) first ⊎ LeavesOnly g.clock g.left_since old new (LeavesFound (g.may_be old) (g.told old))
  pub sides : LeavesOnly g.clock g.left_since old new (IsOnEitherSide first (g.may_be old) stood (g.told old))
  pub finds : g.certain old → LeavesOnly g.clock g.left_since old new (FindsOrLeaves (g.disk old) stood (g.told old))
