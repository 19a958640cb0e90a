-- The headline: what a run of a script over a folder promises, part by part. It is read first; then Machine, Telling, Synced and Cuts.
use Rattle.std.specs.Prelude.{◌≡◌, ◌⊎◌, ℕ, ◌-◌, ◌^◌, ◌<◌, List, ◌++◌, length, IsSome}
use Rattle.bl_site.specs.Disk.{Name, Folder, Disk, Cut, folder_of}
use Rattle.bl_site.specs.Calls.{LeavesOnly}
use Rattle.bl_site.specs.Causes.{Rose}
use Rattle.bl_site.specs.declared.site.Site.{Ghosts as SiteGhosts}
use Rattle.bl_site.specs.declared.source.Source.{Ghosts as SourceGhosts}
use Rattle.bl_wal.specs.LogFile.{log_name}
use Rattle.bl_logstore.specs.Cuts.{AreWhole}
use Rattle.bl_logstore.specs.Damage.{IsDamaged}
use Rattle.bl_logstore.specs.Stored.{KeepsOthers, HasNextLog}
use Rattle.bl_shell.specs.Causes.{IsOfDamaged, TookOver}
use Rattle.bl_shell.specs.Cuts.{CutOfRun, CutStands, FromSomeMoment, HasStopped, IsKept, IsPastOpening, as_it_reads}
use Rattle.bl_shell.specs.Machine.{orders}
use Rattle.bl_shell.specs.Telling.{HasRun, HasTaken, HasBegun, HasFaltered, HasEnded, corrupt_line}
use Rattle.bl_shell.specs.declared.status.Status.{Status}
use Rattle.bl_shell.specs.declared.status.Status.TheVariants.{Done, Words, TellFault, DiskFault, OutOfMemory, ReadFault, Long, Corrupt, Full}

-- A run as its contract sees it: what there was before and after, and what is so of each power cut.
pub record Run : Type 1 where
  pub disk : Disk
  pub disk_after : Disk
  -- the bytes that the source had, and those that were not taken
  pub script : List ℕ
  pub left : List ℕ
  -- the bytes told before the run, and by its end
  pub told : List ℕ
  pub told_after : List ℕ
  -- no name call is in doubt
  pub certain : Type 0
  pub certain_after : Type 0
  -- the disks that a cut might find
  pub may_be : Disk → Type 0
  pub may_be_after : Disk → Type 0
  -- this is so of each cut at a moment of the run
  pub EachCut : (Cut → Type 0) → Type 0
  -- this is so of each cut from some moment of the run on
  pub EachLateCut : (Cut → Type 0) → Type 0
  -- a cut at some moment of the run might have left this
  pub MightBeLeft : Cut → Type 0

abbrev pub run_of : {S R : Type 0} → SiteGhosts S → SourceGhosts R → (script after : R) → (old new : S) → Run
run_of s r script after old new = record {
  disk = s.disk old;
  disk_after = s.disk new;
  script = r.left script;
  left = r.left after;
  told = s.told old;
  told_after = s.told new;
  certain = s.certain old;
  certain_after = s.certain new;
  may_be = s.may_be old;
  may_be_after = s.may_be new;
  EachCut = LeavesOnly s.clock s.left_since old new;
  EachLateCut = FromSomeMoment s.clock s.left_since old new;
  MightBeLeft = s.left_since new (s.clock old);
}

abbrev pub folder : Run → Folder
folder run = folder_of run.disk

abbrev pub folder_after : Run → Folder
folder_after run = folder_of run.disk_after

-- A cut behind the barrier of the opening: older logs are left whole and, unless a torn fragment's checksum matches by chance, the folder left
-- stands for the map after a prefix of the writes that holds each one acknowledged as synced, and none that passes a limit.
abbrev pub IsBehind : Run → Cut → Type 0
IsBehind run c = CutStands (folder run) (orders run.script) run.told c

-- Some bytes of the script were taken, more than 2^40 where it was too long. The replies to the whole lines among them were told, none of
-- which passes a limit, and the folder left stands for the map after them.
pub record TellsTaken (run : Run) (TooLong : Type 0) : Type 0 where
  pub taken : List ℕ
  pub rest : taken ++ run.left ≡ run.script
  pub over : TooLong → 2 ^ 40 < length taken
  pub tells : HasTaken (folder run) (folder_after run) taken run.told run.told_after

-- a front of a line that ends a run was told behind the replies, and the folder left is the one that this line speaks of
abbrev pub TellsEndInPart : Run → Type 0
TellsEndInPart run = HasEnded (folder run) (folder_after run) run.script run.told run.told_after

-- nothing was told, or a front of the replies, in which no whole reply is to a line that passes a limit; or a front of a last line
abbrev pub TellsNoMore : Run → Status → Type 0
TellsNoMore run status = (run.told_after ≡ run.told) ⊎ HasBegun (folder run) run.script run.told run.told_after ⊎ ((status ≡ TellFault) × TellsEndInPart run)

-- a reply could not be told, the folder failed, or memory ran out
abbrev pub IsFailure : Status → Type 0
IsFailure status = (status ≡ TellFault) ⊎ (status ≡ DiskFault) ⊎ (status ≡ OutOfMemory)

-- Without a cut: the replies are those of an ordered map, and the folder left stands for the map.
pub record AnswersAsMap (run : Run) (status : Status) : Type 0 where
  -- the replies to the whole script were told, and the folder left stands for the last map
  pub done : status ≡ Done → HasRun (folder run) (folder_after run) run.script run.told run.told_after
  -- the script could not be read on, or is too long
  pub taken : (status ≡ ReadFault) ⊎ (status ≡ Long) → TellsTaken run (status ≡ Long)
  -- a limit: the replies to the lines before the one in hand, and which limit it is the first to pass; the folder left stands for the
  -- map after the lines before it, and no cut holds what it would write
  pub full : status ≡ Full → HasStopped run.may_be (folder run) (folder_after run) run.script run.told run.told_after run.EachCut
  pub failed : IsFailure status → TellsNoMore run status
  -- a reply could not be told whole: its line was obeyed all the same, and the folder left stands for the map after it; or a line that
  -- ends the run could not be
  pub untold : status ≡ TellFault → HasFaltered (folder run) (folder_after run) run.script run.told run.told_after ⊎ TellsEndInPart run

-- With a power cut at any moment, whatever the status.
pub record SurvivesCuts (run : Run) (status : Status) : Type 0 where
  -- before the barrier what a cut before the run might have left, perhaps with the next log besides, empty, and nothing told but a front of
  -- an error line; or behind it
  pub any_moment : run.EachCut (CutOfRun run.may_be (folder run) (orders run.script) run.told)
  -- the barrier is over once the next log is made, where no name call was in doubt as the run began
  pub barrier : run.certain → run.EachCut (λ c. HasNextLog (folder run) c.written → IsBehind run c)
  -- and from some moment on, whatever was in doubt as the run began, where a byte of the script was taken, or the status is one of a run that read
  -- it, or the next log is there and no name call is in doubt
  pub past : IsPastOpening status run.script run.left ⊎ (HasNextLog (folder run) run.disk_after × run.certain_after) → run.EachLateCut (IsBehind run)
  -- then, and wherever the next log is there: below a log with data no log has an unsynced byte
  pub whole : IsPastOpening status run.script run.left ⊎ HasNextLog (folder run) run.disk_after → AreWhole run.disk_after
  -- the folder as it reads is one that such a cut leaves
  pub reads : run.MightBeLeft (as_it_reads run.disk_after run.told_after)
  -- from `Done` on every cut leaves the last map
  pub kept : status ≡ Done → IsKept run.certain_after run.may_be_after run.disk_after run.told_after (folder run) run.script

-- the folder's first fault was told, and it reads as it did
pub record TellsFault (run : Run) : Type 0 where
  pub name : Name
  pub place : ℕ
  pub damaged : IsDamaged (folder run) name place
  pub told_is : run.told_after ≡ run.told ++ corrupt_line name place
  pub same : folder_after run ≡ folder run

-- What it refuses before the first line, and what it leaves alone.
pub record Refuses (run : Run) (status : Status) : Type 0 where
  pub corrupt : status ≡ Corrupt → TellsFault run
  -- a damaged folder is refused
  pub damaged : (name : Name) (place : ℕ) → IsDamaged (folder run) name place → (status ≡ Words) ⊎ IsOfDamaged status
  -- and so is one with a log of the greatest number
  pub last_log : IsSome (folder run (log_name (10 ^ 15 - 1))) → (status ≡ Words) ⊎ (status ≡ Full) ⊎ IsOfDamaged status
  -- every name that is no log's stands for the file that it stood for
  pub others : KeepsOthers run.disk run.disk_after

-- Each failure of the script, of the output or of the folder, and `Long`, has its cause in the run.
pub record HasCauses {S R : Type 0} (s : SiteGhosts S) (r : SourceGhosts R) (status : Status) (script after : R) (old new : S) : Type 0 where
  pub read : status ≡ ReadFault → Rose (r.faults script) (r.faults after)
  pub tell : status ≡ TellFault → Rose (s.tell_faults old) (s.tell_faults new)
  pub disk : status ≡ DiskFault → Rose (s.disk_faults old) (s.disk_faults new)
  pub long : status ≡ Long → TookOver (2 ^ 40) (r.taken script) (r.taken after)
