-- Where a run begins, and its histories.
use Rattle.std.specs.Prelude.{◌≡◌, ◌⊎◌, ℕ, List, length}
use Rattle.std.specs.FinMap.{empty}
use Rattle.bl_site.specs.Disk.{Folder}
use Rattle.bl_entry.specs.Revisions.{Map}
use Rattle.bl_edit.specs.Options.{Values}
use Rattle.bl_build.specs.Listing.{Listing, nothing}
use Rattle.bl_build.specs.Restoring.{Restored}
use Rattle.bl_folder.specs.Live.{IsFresh, IsLive}
use Rattle.bl_folder.specs.Numbers.{IsFirstNumber}
use Rattle.bl_folder.specs.Stands.{StandsLive}
use Rattle.bl_open.specs.Options.{Words, defaults, given_or}
use Rattle.bl_script.specs.declared.command.Parsed.{Parsed}
use Rattle.bl_machine.specs.State.{State, IsInOrder, start}
use Rattle.bl_machine.specs.Step.{Line}
use Rattle.bl_machine.specs.History.{IsFront, IsHistory}

-- where a run begins
pub record Start : Type 0 where
  -- the store's options
  pub options : Values
  -- the map that the folder stands for, the last sequence in it, and how many entries its tables and logs have
  pub now : Map
  pub last : ℕ
  pub entries : ℕ
  -- the tables and blob files, once it is opened
  pub listing : Listing

-- the machine's first state
abbrev pub first_of : Start → State
first_of began = start began.now began.listing

-- On a fresh folder: the map is empty, and the options are the given words and else the defaults.
pub record StartsFresh (folder : Folder) (words : Words) (began : Start) : Type 0 where
  pub fresh : IsFresh folder
  pub options_are : began.options ≡ given_or defaults words
  pub now_is : began.now ≡ empty
  pub last_is : began.last ≡ 0
  pub entries_are : began.entries ≡ 0
  pub listing_is : began.listing ≡ nothing

-- On a folder that stands for a map and is not fresh: the options are the stored ones.
pub record StartsLive (folder : Folder) (began : Start) : Type 0 where
  pub stands : StandsLive folder began.now
  pub options_are : began.options ≡ stands.holding.live.standing.options
  pub last_is : began.last ≡ stands.holding.last
  pub entries_are : began.entries ≡ length stands.found

-- the first number that an opening may take
abbrev pub IsFirstOf : Folder → ℕ → Type 0
IsFirstOf folder number =
    (IsFresh folder × IsFirstNumber folder nothing 1 number)
    ⊎ ((manifest : ℕ) × ((live : Restored) × IsLive folder manifest live × IsFirstNumber folder live.version live.standing.next_file number))

-- a run with these words begins on this folder here
pub record IsStartOf (folder : Folder) (words : Words) (began : Start) : Type 0 where
  pub on : StartsFresh folder words began ⊎ StartsLive folder began
  pub in_order : IsInOrder began.listing

-- A history of all these orders, by a run that begins on this folder.
pub record HistoryOf (folder : Folder) (words : Words) (given : List Parsed) : Type 0 where
  pub began : Start
  pub begins : IsStartOf folder words began
  pub history : List Line
  pub last : State
  pub is_history : IsHistory began.options (first_of began) given history last

-- A history of the first of these orders.
pub record FrontOf (folder : Folder) (words : Words) (given : List Parsed) : Type 0 where
  pub began : Start
  pub begins : IsStartOf folder words began
  pub history : List Line
  pub last : State
  pub is_front : IsFront began.options (first_of began) given history last
