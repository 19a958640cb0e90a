-- What serving some lines of a script has done, since the run began.
use Rattle.std.specs.Prelude.{◌≡◌, ◌⊎◌, ℕ, ◌^◌, ◌<◌, List, [], ◌∷◌, ◌++◌, length}
use Rattle.bl_site.specs.Disk.{Cut, Name, folder_of}
use Rattle.bl_site.specs.Calls.{Elapses, KeepsDisk, LeavesOnly, Tells}
use Rattle.bl_site.specs.declared.site.Site.{Ghosts}
use Rattle.bl_entry.specs.Revisions.{Map}
use Rattle.bl_folder.specs.Settled.{IsSettled}
use Rattle.bl_folder.specs.Stands.{Stands}
use Rattle.bl_script.specs.declared.command.Parsed.{Parsed}
use Rattle.bl_machine.specs.State.{State}
use Rattle.bl_machine.specs.Step.{Line}
use Rattle.bl_machine.specs.History.{IsHistory, told_by}
use Rattle.bl_machine.specs.Synced.{whole_within}
use Rattle.bl_open.specs.Found.{IsLeftStanding}
use Rattle.bl_open.specs.Options.{Words}
use Rattle.bl_open.specs.Recovering.{CutsAtBarrier, TakesOver}
use Rattle.bl_store.specs.Opening.{IsBegun, opened_of}
use Rattle.bl_store.specs.Stored.{Stored}
use Rattle.bl_store.specs.Calls.{CutsOfCall}
use Rattle.bl_store.specs.Held.{Held, all_durable, begun_with, now_of}
use Rattle.bl_store.specs.Standing.{IsOnDisk, StandsAsSynced, StandsFor}
use Rattle.bl_promise.specs.Start.{IsStartOf, Start, first_of}
use Rattle.bl_promise.specs.Cuts.{CutFound, CutOf, CutOfRun, CutStands, FindsNewFile, FromSomeMoment}
use Rattle.bl_promise.specs.Telling.{Fits, TellsFront, last_after}
use Rattle.bl_promise.specs.Carried.{IsStored}

-- ---- what a run has done so far

-- a cut before the barrier of the opening, or behind it with this history
abbrev pub IsCutOf : {S : Type 0} → Ghosts S → Start → List Line → S → Cut → Type 0
IsCutOf g began history start c = CutFound (folder_of (g.disk start)) (g.may_be start) (g.told start) c ⊎ CutOf began history (g.told start) c

-- Each cut since the start left what one before the opening's barrier might have left, or the map after a prefix of this history's writes; the latter where it finds a new file, if no name call was in doubt at the start, and from some moment on.
pub record AreCut {S : Type 0} (g : Ghosts S) (began : Start) (history : List Line) (start now : S) : Type 0 where
  pub each : LeavesOnly g.clock g.left_since start now (IsCutOf g began history start)
  pub behind : g.certain start → LeavesOnly g.clock g.left_since start now (λ c. FindsNewFile (g.disk start) c.folder → CutOf began history (g.told start) c)
  pub late : FromSomeMoment g.clock g.left_since start now (CutOf began history (g.told start))

-- So it is of the opening of a run that is given these orders,
pub record AreOfOpening {S : Type 0} (g : Ghosts S) (words : Words) (given : List Parsed) (start now : S) : Type 0 where
  pub each : LeavesOnly g.clock g.left_since start now (CutOfRun (folder_of (g.disk start)) words (g.may_be start) given (g.told start))
  pub behind : g.certain start → LeavesOnly g.clock g.left_since start now (λ c. FindsNewFile (g.disk start) c.folder → CutStands (folder_of (g.disk start)) words given (g.told start) c)

-- and of a run that obeys the first of them.
pub record AreOfRun {S : Type 0} (g : Ghosts S) (words : Words) (given : List Parsed) (start now : S) : Type 0 where
  pub each : LeavesOnly g.clock g.left_since start now (CutOfRun (folder_of (g.disk start)) words (g.may_be start) given (g.told start))
  pub behind : g.certain start → LeavesOnly g.clock g.left_since start now (λ c. FindsNewFile (g.disk start) c.folder → CutStands (folder_of (g.disk start)) words given (g.told start) c)
  pub late : FromSomeMoment g.clock g.left_since start now (CutStands (folder_of (g.disk start)) words given (g.told start))

-- The store carries the state, as if some tables and blob files that were found unsynced had been synced; from a settled disk, as they are. No name call is in doubt, and there was a sequence for each operation.
pub record IsCarried {S : Type 0} (g : Ghosts S) (began : Start) (history : List Line) (last : State) (store : Stored) (start now : S) : Type 0 where
  pub names : List Name
  pub stored : IsStored names began history last store (g.disk now)
  pub settled : IsSettled (g.disk start) → IsStored [] began history last store (g.disk now)
  pub certain : g.certain now
  pub last_is : store.last ≡ last_after began history
  pub fits : Fits began history

-- These orders were obeyed: of one history, its replies were told, the store carries its last state, and the cuts are its own.
pub record Served {S : Type 0} (g : Ghosts S) (began : Start) (given : List Parsed) (store : Stored) (start now : S) : Type 0 where
  pub history : List Line
  pub last : State
  pub is_history : IsHistory began.options (first_of began) given history last
  pub told_is : g.told now ≡ g.told start ++ told_by history
  pub carried : IsCarried g began history last store start now
  pub cuts : IsSettled (g.disk start) → AreCut g began history start now

-- Besides, this order was obeyed, and a front of its reply was told.
pub record Answering {S : Type 0} (g : Ghosts S) (began : Start) (given : List Parsed) (order : Parsed) (store : Stored) (start now : S) : Type 0 where
  pub before : List Line
  pub line : Line
  pub last : State
  pub is_history : IsHistory began.options (first_of began) (given ++ order ∷ []) (before ++ line ∷ []) last
  pub front : TellsFront line.told (g.told start ++ told_by before) (g.told now)
  pub carried : IsCarried g began (before ++ line ∷ []) last store start now
  pub cuts : IsSettled (g.disk start) → AreCut g began (before ++ line ∷ []) start now

-- A call failed in the last of these orders: a front of their replies was told, and the cuts are those of a history of them.
pub record Failing {S : Type 0} (g : Ghosts S) (began : Start) (given : List Parsed) (start now : S) : Type 0 where
  pub history : List Line
  pub last : State
  pub is_history : IsHistory began.options (first_of began) given history last
  pub front : TellsFront (told_by history) (g.told start) (g.told now)
  pub cuts : IsSettled (g.disk start) → AreCut g began history start now
  pub fits : Fits began (whole_within (length front.front) history)

-- A limit was met in the order behind these: they were obeyed, the folder stands for their last map, and the cuts are theirs.
pub record Stopped {S : Type 0} (g : Ghosts S) (began : Start) (given : List Parsed) (start now : S) : Type 0 where
  pub history : List Line
  pub last : State
  pub is_history : IsHistory began.options (first_of began) given history last
  pub told_is : g.told now ≡ g.told start ++ told_by history
  pub stands : Stands (folder_of (g.disk now)) last.now
  pub cuts : IsSettled (g.disk start) → AreCut g began history start now
  pub fits : Fits began history

-- ---- what calls have done

-- A call of a store, as its contract says it: nothing was told, no name call is in doubt, the store stands for what it holds then, and a cut meanwhile left the map after some first writes.
pub record HasCalled {S : Type 0} (g : Ghosts S) (done : Held → Held) (store new : Stored) (old now : S) : Type 0 where
  pub told : g.told now ≡ g.told old
  pub certain : g.certain now
  pub stands : (names : List Name) (held : Held) → StandsFor names held store (g.disk old) → StandsFor names (done held) new (g.disk now)
  pub cuts : (held : Held) → StandsFor [] held store (g.disk old) → CutsOfCall g held (done held) old now

-- The store was begun anew: it holds what it held, with all writes durable; as if some files had been synced, the map of the folder.
pub record HasReopened {S : Type 0} (g : Ghosts S) (store new : Stored) (old now : S) : Type 0 where
  pub told : g.told now ≡ g.told old
  pub certain : g.certain now
  pub stands : (held : Held) → StandsFor [] held store (g.disk old) → StandsFor [] (all_durable held) new (g.disk now)
  pub begins : (m : Map) → Stands (folder_of (g.disk old)) m → StandsAsSynced (begun_with m) new (g.disk now)
  pub cuts : (held : Held) → StandsFor [] held store (g.disk old) → CutsOfCall g held (all_durable held) old now

-- A call of a store that failed: nothing was told, and a cut meanwhile left the map after some first writes.
pub record HasFailed {S : Type 0} (g : Ghosts S) (done : Held → Held) (store : Stored) (old now : S) : Type 0 where
  pub told : g.told now ≡ g.told old
  pub cuts : (held : Held) → StandsFor [] held store (g.disk old) → CutsOfCall g held (done held) old now

-- A call of a store that met a limit: nothing was told, the store holds what it held, and a cut meanwhile left the map after some first ones of the writes held before.
pub record HasMetLimit {S : Type 0} (g : Ghosts S) (store new : Stored) (old now : S) : Type 0 where
  pub told : g.told now ≡ g.told old
  pub stands : (names : List Name) (held : Held) → StandsFor names held store (g.disk old) → StandsFor names held new (g.disk now)
  pub cuts : (held : Held) → StandsFor [] held store (g.disk old) → CutsOfCall g held (all_durable held) old now

-- A front of these bytes was told, and the disk is as it was.
pub record HasTold {S : Type 0} (g : Ghosts S) (bytes : List ℕ) (old now : S) : Type 0 where
  pub front : TellsFront bytes (g.told old) (g.told now)
  pub stays : KeepsDisk g.disk g.may_be g.certain old now
  pub time : Elapses (g.clock old) (g.clock now) (g.left_since old) (g.left_since now) (Tells (g.may_be old) (g.told old) bytes)

-- What a store that stands on the disk is seen to have there.
abbrev pub IsSeen : {S : Type 0} → Ghosts S → Stored → S → Type 0
IsSeen g store now = (names : List Name) (held : Held) → StandsFor names held store (g.disk now) → IsOnDisk store (now_of held) (folder_of (g.disk now))

-- ---- an opening

-- The folder was opened, as the contract of the opening says it at Ok: the store begins with what was found, and stands on the disk for this map; a cut meanwhile left what one before might have left, perhaps with an empty file besides, or the map.
pub record HasOpened {S : Type 0} (g : Ghosts S) (words : Words) (m : Map) (store : Stored) (old now : S) : Type 0 where
  pub told : g.told now ≡ g.told old
  pub certain : g.certain now
  pub begun : IsBegun store
  pub takes : TakesOver (folder_of (g.disk old)) words (opened_of store)
  pub fits : store.last < 2 ^ 56
  pub begins : StandsAsSynced (begun_with m) store (g.disk now)
  pub stands : IsSettled (g.disk old) → StandsFor [] (begun_with m) store (g.disk now)
  pub cuts : IsSettled (g.disk old) → CutsAtBarrier g (IsLeftStanding (folder_of (g.disk old)) m) old now

-- A run begins: nothing was obeyed yet.
pub record BeginsRun {S : Type 0} (g : Ghosts S) (words : Words) (store : Stored) (start now : S) : Type 0 where
  pub began : Start
  pub begins : IsStartOf (folder_of (g.disk start)) words began
  pub served : Served g began [] store start now
