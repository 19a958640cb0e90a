-- The headline: what a run of a script over a folder promises, part by part. It is read first; then Run, Start, Telling and Cuts, and of the machine State, Step, History and Synced.
use Rattle.std.specs.Prelude.{◌≡◌, ◌≢◌, ◌⊎◌, ℕ, ◌≤◌, ◌<◌, List, []}
use Rattle.bl_site.specs.Disk.{Name, Disk, Cut, folder_of, written_of}
use Rattle.bl_names.specs.declared.name.FileName.{FileName}
use Rattle.bl_names.specs.declared.name.FileName.TheVariants.{Log}
use Rattle.bl_names.specs.Names.{IsNameOf, IsNumber}
use Rattle.bl_records.specs.Chance.{NoChanceMatch}
use Rattle.bl_build.specs.Restoring.{Restored}
use Rattle.bl_folder.specs.Files.{log_bytes}
use Rattle.bl_folder.specs.Live.{IsLive}
use Rattle.bl_folder.specs.Settled.{IsSettled, IsSynced}
use Rattle.bl_open.specs.Recovering.{IsFull, IsRefused}
use Rattle.bl_open.specs.declared.error.OpenErr.{OpenErr}
use Rattle.bl_open.specs.declared.error.OpenErr.TheVariants as opening
use Rattle.bl_machine.specs.History.{orders}
use Rattle.bl_promise.specs.Run.{Run, folder, folder_after}
use Rattle.bl_promise.specs.Cuts.{CutOfRun, CutStands, FindsNewFile, IsBeforeOrFinds, as_it_reads}
use Rattle.bl_promise.specs.Telling.{EndsCorrupt, EndsDiffer, EndsFull, HasBegun, HasFaltered, HasRun, HasTaken, TellsEnd, TellsEndInPart}
use Rattle.bl_promise.specs.declared.status.Status.{Status}
use Rattle.bl_promise.specs.declared.status.Status.TheVariants.{Done, TellFault, DiskFault, OutOfMemory, ReadFault, Long, Corrupt, Full, Differ}

-- ---- for every script and sound starting folder

-- a reply could not be told, the folder failed, or memory ran out
abbrev pub IsFailure : Status → Type 0
IsFailure status = (status ≡ TellFault) ⊎ ((status ≡ DiskFault) ⊎ (status ≡ OutOfMemory))

-- a line that ends the run, which is not for damage
abbrev pub Ends : Run → (replies line : List ℕ) → Type 0
Ends run replies line = EndsFull run replies line ⊎ EndsDiffer run replies line

-- nothing was told, or a front of the replies; or a front of a last line
abbrev pub TellsNoMore : Run → Status → Type 0
TellsNoMore run status = (run.told_after ≡ run.told) ⊎ (HasBegun run ⊎ ((status ≡ TellFault) × TellsEndInPart run (Ends run)))

-- The bytes told are the replies of an ordered map, and the folder left stands for that map.
pub record AnswersAsMap (run : Run) (status : Status) : Type 0 where
  -- the whole script
  pub done : status ≡ Done → HasRun run
  -- it could not be read on, or is too long: the whole lines taken
  pub taken : (status ≡ ReadFault) ⊎ (status ≡ Long) → HasTaken run (status ≡ Long)
  -- a limit: the lines before the one in hand
  pub full : status ≡ Full → TellsEnd run (EndsFull run)
  -- a failure: nothing, or a front of the replies
  pub failed : IsFailure status → TellsNoMore run status
  -- a reply, or a last line, could not be told whole
  pub untold : status ≡ TellFault → HasFaltered run ⊎ TellsEndInPart run (Ends run)
  -- there is no damage
  pub sound : status ≡ Corrupt → ⊥

-- ---- with a power cut at any moment, whatever the status: on a settled disk besides

-- behind the barrier of the opening: the map after a prefix of the writes that holds each one acknowledged as synced
abbrev pub IsBehind : Run → Cut → Type 0
IsBehind run c = CutStands (folder run) run.words (orders run.script) run.told c

-- a run past its opening: it read its script, or a byte of it was taken
abbrev pub IsPastOpening : Run → Status → Type 0
IsPastOpening run status = (status ≡ Done) ⊎ ((status ≡ ReadFault) ⊎ ((status ≡ Long) ⊎ (run.left ≢ run.script)))

-- a run that no call of the store ended
abbrev pub IsUnbroken : Run → Status → Type 0
IsUnbroken run status = (status ≡ Done) ⊎ ((status ≡ ReadFault) ⊎ ((status ≡ Long) ⊎ ((status ≡ TellFault) × HasFaltered run)))

-- wherever a log has a byte, no needed log of a lower number has an unsynced one
abbrev pub AreLogsWhole : Disk → Type 0
AreLogsWhole disk = (manifest : ℕ) (live : Restored) → IsLive (folder_of disk) manifest live → (lower upper : ℕ) → IsNumber lower → live.standing.log_number ≤ lower → lower < upper
    → log_bytes (written_of disk) upper ≢ [] → IsSynced disk (Log lower)

pub record SurvivesCuts (run : Run) (status : Status) : Type 0 where
  -- before the barrier what a cut before the run might have left, perhaps with one empty file more, and nothing told but a front of an error line; or behind it
  pub any_moment : run.EachCut (CutOfRun (folder run) run.words run.may_be (orders run.script) run.told)
  -- the barrier is over once the opening's first file is there, where no name call was in doubt as the run began
  pub barrier : run.certain → run.EachCut (λ c. FindsNewFile run.disk c.folder → IsBehind run c)
  -- and from some moment on, whatever was in doubt
  pub past : IsPastOpening run status → run.EachLateCut (IsBehind run)
  -- the folder as it reads is one that such a cut leaves
  pub reads : run.MightBeLeft (as_it_reads run.disk_after run.told_after)
  -- the disk left is settled, and its logs are whole
  pub settled : NoChanceMatch (folder_after run) (written_of run.disk_after) → IsSettled run.disk_after
  pub whole : IsUnbroken run status → AreLogsWhole run.disk_after

-- ---- for every folder: what is refused, and what is left alone

-- this status, or a failure that came before
abbrev pub OrFails : Status → Status → Type 0
OrFails due status = (status ≡ due) ⊎ IsFailure status

-- the status of an opening that is refused
abbrev pub status_of : OpenErr → Status
status_of opening.Disk = DiskFault
status_of (opening.Corrupt name place) = Corrupt
status_of (opening.Full next) = Full
status_of (opening.Differ option stored asked) = Differ
status_of opening.OutOfMemory = OutOfMemory

-- no name of the store's forms
abbrev pub IsForeign : Name → Type 0
IsForeign name = (f : FileName) → IsNameOf name f → ⊥

pub record Refuses (run : Run) (status : Status) : Type 0 where
  -- damage, and a word that is not the stored option, are told
  pub corrupt : status ≡ Corrupt → TellsEnd run (EndsCorrupt run)
  pub differ : status ≡ Differ → TellsEnd run (EndsDiffer run)
  -- exactly where the opening is refused or full
  pub refused : (e : OpenErr) → IsRefused (folder run) run.words e → OrFails (status_of e) status
  pub full : IsFull (folder run) run.words → OrFails Full status
  -- a cut that finds no file of the opening is one before its barrier
  pub before : run.EachCut (IsBeforeOrFinds (folder run) run.may_be run.told)
  -- every other name stands for the file that it stood for
  pub others : (name : Name) → IsForeign name → run.disk_after name ≡ run.disk name
