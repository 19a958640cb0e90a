-- What a power cut at some moment of a run leaves.
use Rattle.std.specs.Prelude.{◌≡◌, ◌⊎◌, ◌-◌, ℕ, ◌≤◌, List, [], ◌∷◌, ◌++◌, length, codes, decimal, get_or, None, IsSome}
use Rattle.bl_site.specs.Disk.{Name, Folder, Disk, Cut, folder_of, written_of}
use Rattle.std.specs.FinMap.{empty}
use Rattle.bl_entry.specs.Revisions.{Map}
use Rattle.bl_folder.specs.Live.{IsFresh}
use Rattle.bl_open.specs.SteadyCuts.{IsLeftFor}
use Rattle.bl_open.specs.Barrier.{IsNewFile, HasEmptyFile, MayBeFound}
use Rattle.bl_open.specs.Options.{Words}
use Rattle.bl_records.specs.Chance.{NoChanceMatch}
use Rattle.bl_script.specs.declared.command.Parsed.{Parsed}
use Rattle.bl_machine.specs.Step.{Line}
use Rattle.bl_machine.specs.History.{map_after, told_by}
use Rattle.bl_machine.specs.Synced.{begun, synced}
use Rattle.bl_promise.specs.Start.{Start, FrontOf}

-- ---- behind the barrier of the opening

-- What is left stands for this map: a fresh folder, or one whose needed logs are left whole.
abbrev pub IsLeft : Map → Cut → Type 0
IsLeft m c = (IsFresh c.folder × (m ≡ empty)) ⊎ IsLeftFor m c

-- It stands for the map after some first writes of a history: at least those acknowledged as synced, at most those begun, by the bytes of replies that were told.
pub record StandsAfter (c : Cut) (began : Start) (history : List Line) (count : ℕ) : Type 0 where
  pub writes : ℕ
  pub at_least : synced count history ≤ writes
  pub at_most : writes ≤ begun count history
  pub left : IsLeft (map_after writes history began.now) c

-- A cut of a run with this history: a front of its replies was told and, unless a torn fragment's checksum matches by chance, the folder left stands for the map after a prefix of its writes.
pub record CutOf (began : Start) (history : List Line) (told : List ℕ) (c : Cut) : Type 0 where
  pub replies : List ℕ
  pub more : List ℕ
  pub replies_are : replies ++ more ≡ told_by history
  pub told_is : c.told ≡ told ++ replies
  pub stands : NoChanceMatch c.folder c.written → StandsAfter c began history (length replies)

-- ---- the lines that end a run

-- the option words without their dashes, by their numbers from 1 on
abbrev pub option_names : List (List ℕ)
option_names =
    codes "min-blob-size" ∷ codes "blob-file-size" ∷ codes "write-buffer" ∷ codes "table-size" ∷ codes "level0-trigger"
    ∷ codes "level-base" ∷ codes "level-factor" ∷ codes "age-cutoff" ∷ codes "force-threshold" ∷ []

abbrev pub option_name : ℕ → List ℕ
option_name option = get_or option_names (option - 1) []

abbrev pub corrupt_line : Name → ℕ → List ℕ
corrupt_line name place = codes "error corrupt " ++ name ++ codes " " ++ decimal place ++ codes "\n"

abbrev pub full_line : ℕ → List ℕ
full_line number = codes "error full " ++ decimal number ++ codes "\n"

abbrev pub differ_line : ℕ → ℕ → ℕ → List ℕ
differ_line option stored asked = codes "error differ " ++ option_name option ++ codes " " ++ decimal stored ++ codes " " ++ decimal asked ++ codes "\n"

abbrev pub IsErrorLine : List ℕ → Type 0
IsErrorLine line =
    ((name : Name) × ((place : ℕ) × (line ≡ corrupt_line name place)))
    ⊎ (((number : ℕ) × (line ≡ full_line number))
    ⊎ ((option : ℕ) × ((stored : ℕ) × ((asked : ℕ) × (line ≡ differ_line option stored asked)))))

-- a front of such a line
pub record IsErrorFront (bytes : List ℕ) : Type 0 where
  pub line : List ℕ
  pub is_error : IsErrorLine line
  pub rest : List ℕ
  pub whole : bytes ++ rest ≡ line

-- ---- before it, and on either side

-- the same cut, had only these bytes been told
abbrev pub told_only : List ℕ → Cut → Cut
told_only told c = record c { told = told }

-- a folder that was found, and perhaps besides the first file of an opening, which is empty
abbrev pub IsFoundWith : Folder → Folder → Folder → Type 0
IsFoundWith folder found left = (left ≡ found) ⊎ ((first : Name) × (IsNewFile folder first × HasEmptyFile first found left))

-- A cut before the barrier of the run's opening, before a line that ends the run is told: it leaves what a cut before the run might have left, perhaps with one file more, which is empty; and nothing was told.
pub record CutFound (folder : Folder) (may_be : Disk → Type 0) (told : List ℕ) (c : Cut) : Type 0 where
  pub told_is : c.told ≡ told
  pub found : Folder
  pub was : MayBeFound may_be found
  pub perhaps : IsFoundWith folder found c.folder

-- The same, with a front of such a line told.
pub record CutBefore (folder : Folder) (may_be : Disk → Type 0) (told : List ℕ) (c : Cut) : Type 0 where
  pub error : List ℕ
  pub is_error : IsErrorFront error
  pub told_is : c.told ≡ told ++ error
  pub cut : CutFound folder may_be told (told_only told c)

-- A cut behind the barrier, with this history: replies alone are counted, not the front of an error line behind them.
pub record CutBehind (began : Start) (history : List Line) (told : List ℕ) (c : Cut) : Type 0 where
  pub replied : List ℕ
  pub error : List ℕ
  pub is_error : IsErrorFront error
  pub told_is : c.told ≡ replied ++ error
  pub cut : CutOf began history told (told_only replied c)

-- at any moment of a run with this history
abbrev pub CutWith : Folder → (Disk → Type 0) → Start → List Line → List ℕ → Cut → Type 0
CutWith folder may_be began history told c = CutBefore folder may_be told c ⊎ CutBehind began history told c

-- behind the barrier of a run that is given these orders, of which it obeys the first ones
pub record CutStands (folder : Folder) (words : Words) (given : List Parsed) (told : List ℕ) (c : Cut) : Type 0 where
  pub of : FrontOf folder words given
  pub cut : CutBehind of.began of.history told c

-- at any moment of it
abbrev pub CutOfRun : Folder → Words → (Disk → Type 0) → List Parsed → List ℕ → Cut → Type 0
CutOfRun folder words may_be given told c = CutBefore folder may_be told c ⊎ CutStands folder words given told c

-- a file that was not on the disk is found
abbrev pub FindsNewFile : Disk → Folder → Type 0
FindsNewFile disk folder = (name : Name) × ((disk name ≡ None) × IsSome (folder name))

-- before the barrier of an opening, or a cut that finds the opening's first file, which was not there
abbrev pub IsBeforeOrFinds : Folder → (Disk → Type 0) → List ℕ → Cut → Type 0
IsBeforeOrFinds folder may_be told c = CutBefore folder may_be told c ⊎ ((first : Name) × (IsNewFile folder first × IsSome (c.folder first)))

-- the folder as it reads, with what was told and written so far, as a cut
abbrev pub as_it_reads : Disk → List ℕ → Cut
as_it_reads disk told = record { folder = folder_of disk; told = told; written = written_of disk }

-- from some moment of a call on, every cut leaves what has P
pub record FromSomeMoment {D : Type 0} (clock : D → ℕ) (left_since : D → ℕ → Cut → Type 0) (old new : D) (P : Cut → Type 0) : Type 0 where
  pub moment : ℕ
  pub not_before : clock old ≤ moment
  pub not_after : moment ≤ clock new
  pub each : (c : Cut) → left_since new moment c → P c
