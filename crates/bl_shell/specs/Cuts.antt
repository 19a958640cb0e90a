-- What a power cut at some moment of a run leaves.
use Rattle.std.specs.Prelude.{◌≡◌, ◌≢◌, ◌⊎◌, ℕ, ◌≤◌, List, [], ◌++◌}
use Rattle.std.proofs.Common.{inl, inr}
use Rattle.bl_site.specs.Disk.{Name, Folder, Disk, Cut, MayLeave, folder_of, written_of}
use Rattle.bl_names.specs.Names.{IsNumber}
use Rattle.bl_script.specs.declared.command.Parsed.{Parsed}
use Rattle.bl_wal.specs.LogFile.{log_name}
use Rattle.bl_logstore.specs.Cuts.{BeforeBarrier, AreWhole}
use Rattle.bl_logstore.specs.Folders.{LogStands}
use Rattle.bl_logstore.specs.Stored.{IsSynced, HasNextLog}
use Rattle.bl_shell.specs.Machine.{State, Line, IsHistory, orders, orders_of, Start}
use Rattle.bl_shell.specs.Synced.{CutOf}
use Rattle.bl_shell.specs.declared.status.Status.{Status}
use Rattle.bl_shell.specs.declared.stop.Stop.{Stop}
use Rattle.bl_shell.specs.Causes.{IsForScript, IsNotOfScript, IsSilent}
use Rattle.bl_shell.specs.Telling.{IsStartOf, IsFull, PassesIn, corrupt_line, full_line}

-- a front of a line that ends a run
pub record IsErrorFront (bytes : List ℕ) : Type 0 where
  pub line : List ℕ
  pub is_error : ((name : Name) × ((place : ℕ) × (line ≡ corrupt_line name place))) ⊎ ((limit : ℕ) × (line ≡ full_line limit))
  pub rest : List ℕ
  pub whole : bytes ++ rest ≡ line

-- the same cut, had only these bytes been told
abbrev pub told_only : List ℕ → Cut → Cut
told_only told c = record c { told = told }

-- A cut before the barrier of the run's opening: it leaves what a cut before the run might have left, perhaps with the next log
-- besides, which is empty; and nothing was told but a front of an error line.
pub record CutBefore (may_be : Disk → Type 0) (folder : Folder) (told : List ℕ) (c : Cut) : Type 0 where
  pub error : List ℕ
  pub is_error : IsErrorFront error
  pub told_is : c.told ≡ told ++ error
  pub before : BeforeBarrier folder may_be told (told_only told c)

-- A cut behind it, of a run that was given these orders: older logs are left whole and, unless a torn fragment's checksum matches by
-- chance, the folder stands for the map after a prefix of the writes that holds each one acknowledged as synced. Replies alone are
-- counted, not the front of an error line behind them.
pub record CutStands (folder : Folder) (given : List Parsed) (told : List ℕ) (c : Cut) : Type 0 where
  pub began : Start
  pub begins : IsStartOf folder began
  pub replied : List ℕ
  pub error : List ℕ
  pub is_error : IsErrorFront error
  pub told_is : c.told ≡ replied ++ error
  pub stands : CutOf began given told (told_only replied c)

-- a cut at any moment of a run
abbrev pub CutOfRun : (Disk → Type 0) → Folder → List Parsed → List ℕ → Cut → Type 0
CutOfRun may_be folder given told c = CutBefore may_be folder told c ⊎ CutStands folder given told c

-- such a cut inside a run, before a line that ends it is told
abbrev pub CutPast : Folder → List Parsed → List ℕ → Cut → Type 0
CutPast folder given told c = (began : Start) × IsStartOf folder began × CutOf began given told c

-- from some moment of a call on, every cut leaves what has P
pub record FromSomeMoment {D : Type 0} (clock : D → ℕ) (left_since : D → ℕ → Cut → Type 0) (old new : D) (P : Cut → Type 0) : Type 0 where
  pub moment : ℕ
  pub not_before : clock old ≤ moment
  pub not_after : moment ≤ clock new
  pub each : (c : Cut) → left_since new moment c → P c

-- A run is past its opening, and so past the barrier: the script was read to its end, up to a failed read or up to the limit, or a byte of it was taken.
abbrev pub IsPastOpening : Status → (left left_after : List ℕ) → Type 0
IsPastOpening status left left_after = IsForScript status ⊎ (left_after ≢ left)

-- A stop before the script is read. Where it has a line to tell, the next log was not made.
abbrev pub StopsBeforeScript : Folder → Disk → Stop → Type 0
StopsBeforeScript folder disk s = IsNotOfScript s × (IsSilent s ⊎ (HasNextLog folder disk → ⊥))

-- the folder as it reads, with what was told and written so far, as a cut
abbrev pub as_it_reads : Disk → List ℕ → Cut
as_it_reads disk told = record { folder = folder_of disk; told = told; written = written_of disk }

-- the orders before the one that would pass a limit; an opening has none
abbrev pub given_before : (folder folder_after : Folder) (script replies : List ℕ) (limit : ℕ) → IsFull folder folder_after script replies limit → List Parsed
given_before folder folder_after script replies limit (inl opening) = []
given_before folder folder_after script replies limit (inr passes) = orders_of passes.history

-- A limit ended a run: the replies to the orders before the one in hand were told, and a line that says which limit. That order is not accepted: no cut holds what it writes.
pub record HasStopped (may_be : Disk → Type 0) (folder folder_after : Folder) (script told told_after : List ℕ) (since : (Cut → Type 0) → Type 0) : Type 0 where
  pub replies : List ℕ
  pub limit : ℕ
  pub full : IsFull folder folder_after script replies limit
  pub told_is : told_after ≡ (told ++ replies) ++ full_line limit
  pub cuts : since (CutOfRun may_be folder (given_before folder folder_after script replies limit full) told)

-- the folder left stands for the map after the whole script
pub record StandsForLast (folder : Folder) (script : List ℕ) (left : Folder) : Type 0 where
  pub began : Start
  pub begins : IsStartOf folder began
  pub history : List Line
  pub last : State
  pub is_history : IsHistory began.now (orders script) history last
  pub stands : LogStands left last.now

-- A run is done: no name call is in doubt, no log has an unsynced byte, and every later cut leaves the last map, whatever checksum may match by chance.
pub record IsKept (certain : Type 0) (may_be : Disk → Type 0) (disk : Disk) (told : List ℕ) (folder : Folder) (script : List ℕ) : Type 0 where
  pub certain_now : certain
  pub synced : (number : ℕ) → IsNumber number → IsSynced (disk (log_name number))
  pub whole : AreWhole disk
  pub stands : (c : Cut) → MayLeave may_be told c → StandsForLast folder script c.folder

-- Inside a run, before a line that ends it is told: a cut before the barrier, or one behind it.
abbrev pub CutInRun : (Disk → Type 0) → Folder → List Parsed → List ℕ → Cut → Type 0
CutInRun may_be folder given told c = BeforeBarrier folder may_be told c ⊎ CutPast folder given told c

-- a limit is passed in the line in hand, behind these replies
pub record Stops (folder folder_after : Folder) (script told told_after : List ℕ) (limit : ℕ) (since : (Cut → Type 0) → Type 0) : Type 0 where
  pub replies : List ℕ
  pub passes : PassesIn folder folder_after script replies limit
  pub told_is : told_after ≡ told ++ replies
  pub cuts : since (CutOf passes.began (orders_of passes.history) told)

-- at the run's opening or in a line
pub record StopsRun (may_be : Disk → Type 0) (folder folder_after : Folder) (script told told_after : List ℕ) (limit : ℕ) (since : (Cut → Type 0) → Type 0) : Type 0 where
  pub replies : List ℕ
  pub full : IsFull folder folder_after script replies limit
  pub told_is : told_after ≡ told ++ replies
  pub cuts : since (CutInRun may_be folder (given_before folder folder_after script replies limit full) told)

-- a cut while a line that ends a run is told
pub record TellsError (may_be : Disk → Type 0) (told : List ℕ) (c : Cut) : Type 0 where
  pub error : List ℕ
  pub is_error : IsErrorFront error
  pub leaves : MayLeave may_be (told ++ error) c
