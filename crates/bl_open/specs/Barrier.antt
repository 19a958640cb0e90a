-- What a power cut leaves of an opening, before its barrier is over and behind it.
use Rattle.std.specs.Prelude.{◌≡◌, ◌≢◌, ◌⊎◌, ℕ, ◌<◌, List, [], length, get_or, Some, IsSome}
use Rattle.bl_site.specs.Disk.{Name, File, Folder, Disk, Cut, IsImage, folder_of, written_of}
use Rattle.bl_site.specs.Calls.{LeavesOnly}
use Rattle.bl_site.specs.declared.site.Site.{Ghosts}
use Rattle.bl_names.specs.declared.name.FileName.{FileName}
use Rattle.bl_names.specs.declared.name.FileName.TheVariants.{Table}
use Rattle.bl_names.specs.Names.{HasNumber, IsNumber, name_of}
use Rattle.bl_wal.specs.LogFile.{log_name}
use Rattle.bl_out.specs.Files.{file}
use Rattle.bl_folder.specs.Numbers.{number_of}
use Rattle.bl_open.specs.SteadyCuts.{LeavesStanding}
use Rattle.bl_open.specs.Synced.{synced_file}

-- a cut might find this folder, of the disks that there may be
abbrev pub MayBeFound : (Disk → Type 0) → Folder → Type 0
MayBeFound may_be folder = (disk : Disk) × may_be disk × IsImage disk folder

-- nothing more was told, and what is left is a folder that a cut before might have found
pub record LeavesFound (may_be : Disk → Type 0) (told : List ℕ) (c : Cut) : Type 0 where
  pub told_is : c.told ≡ told
  pub was : MayBeFound may_be c.folder

-- the number is above those of all files of the folder
abbrev pub IsBehindAll : Folder → ℕ → Type 0
IsBehindAll folder number = (f : FileName) → HasNumber f → IsSome (file folder f) → number_of f < number

-- a log or a table, whose number is above those of all files of the folder
pub record IsNewFile (folder : Folder) (name : Name) : Type 0 where
  pub number : ℕ
  pub valid : IsNumber number
  pub kind : (name ≡ log_name number) ⊎ (name ≡ name_of (Table number))
  pub behind : IsBehindAll folder number

-- what was found, and under this name an empty file
pub record HasEmptyFile (name : Name) (found left : Folder) : Type 0 where
  pub made : left name ≡ Some []
  pub others : (other : Name) → other ≢ name → left other ≡ found other

-- Before the barrier is over: nothing more was told, and what is left is a folder that a cut before the opening might have found, perhaps with the first file of the opening besides, which is empty.
pub record BeforeBarrier (first : Name) (may_be : Disk → Type 0) (told : List ℕ) (c : Cut) : Type 0 where
  pub told_is : c.told ≡ told
  pub found : Folder
  pub was : MayBeFound may_be found
  pub perhaps : (c.folder ≡ found) ⊎ HasEmptyFile first found c.folder

-- whether or not the barrier is over
abbrev pub IsOnEitherSide : Name → (Disk → Type 0) → (Cut → Type 0) → List ℕ → Cut → Type 0
IsOnEitherSide first may_be stood told c = BeforeBarrier first may_be told c ⊎ LeavesStanding stood told c

-- the same files, of which some may have been synced
abbrev pub SyncsSome : Disk → Disk → Type 0
SyncsSome old new = (name : Name) → (new name ≡ old name) ⊎ ((x : File) × (old name ≡ Some x) × (new name ≡ Some (synced_file x)))

-- what was written of a file is what was written of it on the disk; or it was synced since, as it read, and is left so
abbrev pub IsWrittenOrSynced : Disk → Cut → Name → Type 0
IsWrittenOrSynced disk c name = (c.written name ≡ written_of disk name) ⊎ ((c.written name ≡ folder_of disk name) × (c.folder name ≡ folder_of disk name))

-- Nothing more was told, and a cut finds of each file what one may leave of it on this disk, and no other file; some may have been synced since.
pub record FindsFiles (disk : Disk) (told : List ℕ) (c : Cut) : Type 0 where
  pub told_is : c.told ≡ told
  pub image : IsImage disk c.folder
  pub written : (name : Name) → IsWrittenOrSynced disk c name

-- a cut finds the files of the disk, or what it leaves stands so
abbrev pub FindsOrLeaves : Disk → (Cut → Type 0) → List ℕ → Cut → Type 0
FindsOrLeaves disk stood told c = FindsFiles disk told c ⊎ LeavesStanding stood told c

-- Before the first name call of an opening: nothing was told, and what a cut leaves is a folder that one before might have left. Where no name call was in doubt none is, and a cut finds the files that were there.
pub record MakesNothing {S : Type 0} (g : Ghosts S) (old new : S) : Type 0 where
  pub told : g.told new ≡ g.told old
  pub found : LeavesOnly g.clock g.left_since old new (LeavesFound (g.may_be old) (g.told old))
  pub certain : g.certain old → g.certain new
  pub finds : g.certain old → LeavesOnly g.clock g.left_since old new (FindsFiles (g.disk old) (g.told old))

-- the disk has a log of each of these numbers, and no other
pub record AreTheLogs (numbers : List ℕ) (disk : Disk) : Type 0 where
  pub each : (k : ℕ) → k < length numbers → IsSome (disk (log_name (get_or numbers k 0)))
  pub all : (n : ℕ) → IsNumber n → IsSome (disk (log_name n)) → (k : ℕ) × (k < length numbers) × (get_or numbers k 0 ≡ n)
