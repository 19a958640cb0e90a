-- Laws of endings: what serving has done is what the headline promises at each status.
use Rattle.std.specs.Prelude.{◌≡◌, ℕ, List, [], ◌∷◌, ◌++◌}
use Rattle.bl_site.specs.Disk.{Disk, folder_of}
use Rattle.bl_site.specs.Calls.{Elapses, LeavesOnly, Tells}
use Rattle.bl_site.specs.declared.site.Site.{Ghosts as SiteGhosts}
use Rattle.bl_site.specs.declared.source.Source.{Ghosts as SourceGhosts}
use Rattle.bl_build.specs.Restoring.{Restored}
use Rattle.bl_folder.specs.Settled.{NeededAreSynced}
use Rattle.bl_open.specs.Options.{Words}
use Rattle.bl_script.specs.declared.command.Parsed.{Parsed}
use Rattle.bl_machine.specs.State.{State}
use Rattle.bl_machine.specs.Step.{Line}
use Rattle.bl_machine.specs.History.{IsHistory, orders}
use Rattle.bl_store.specs.Stored.{Stored}
use Rattle.bl_store.specs.Held.{Held, all_durable, now_of}
use Rattle.bl_store.specs.Standing.{IsOnDisk, StandsFor}
use Rattle.bl_promise.specs.Start.{IsStartOf, Start, first_of}
use Rattle.bl_promise.specs.Cuts.{CutWith, IsErrorLine, full_line}
use Rattle.bl_promise.specs.Run.{run_of}
use Rattle.bl_promise.specs.Telling.{EndsFull, HasBegun, HasFaltered, HasObeyed, HasRun, PassesIn, TellsEndInPart}
use Rattle.bl_promise.specs.Headline.{AreLogsWhole}
use Rattle.bl_promise.specs.Serving.{Answering, AreCut, AreOfRun, Failing, HasCalled, HasTold, IsCutOf, IsSeen, Served, Stopped}

-- time goes on while these bytes are told
abbrev pub IsTelling : {S : Type 0} → SiteGhosts S → List ℕ → S → S → Type 0
IsTelling s bytes old now = Elapses (s.clock old) (s.clock now) (s.left_since old) (s.left_since now) (Tells (s.may_be old) (s.told old) bytes)

-- what the store's version and standing are on the disk
abbrev pub live_of : Stored → Restored
live_of store = record { version = store.version; standing = store.standing }

-- ---- without an error line

-- Where some orders are served, they are obeyed;
abbrev pub ServedAreObeyed : {S R : Type 0} → SiteGhosts S → SourceGhosts R → Type 0
ServedAreObeyed {S} {R} s r = (words : Words) (script after : R) (began : Start) (given : List Parsed) (store : Stored) (start now : S) → IsStartOf (folder_of (s.disk start)) words began
    → Served s began given store start now → IsSeen s store now → HasObeyed (run_of s r words script after start now) given

-- and once the last writes are durable too, and no needed file has an unsynced byte, the whole script has run.
abbrev pub FinishedHaveRun : {S R : Type 0} → SiteGhosts S → SourceGhosts R → Type 0
FinishedHaveRun {S} {R} s r = s.shows → (words : Words) (script after : R) (began : Start) (store : Stored) (start old now : S) → IsStartOf (folder_of (s.disk start)) words began
    → Served s began (orders (r.left script)) store start old → HasCalled s all_durable store store old now → IsSeen s store now
    → ((held : Held) → StandsFor [] held store (s.disk old) → NeededAreSynced (s.disk now) store.manifest.number (live_of store)) → HasRun (run_of s r words script after start now)

-- Where a reply is being told, its line is obeyed;
abbrev pub AnsweringHaveFaltered : {S R : Type 0} → SiteGhosts S → SourceGhosts R → Type 0
AnsweringHaveFaltered {S} {R} s r = (words : Words) (script after : R) (began : Start) (given rest : List Parsed) (order : Parsed) (store : Stored) (start now : S) → IsStartOf (folder_of (s.disk start)) words began
    → Answering s began given order store start now → IsSeen s store now → (given ++ order ∷ []) ++ rest ≡ orders (r.left script) → HasFaltered (run_of s r words script after start now)

-- where a call has failed, a front of the replies was told.
abbrev pub FailingHaveBegun : {S R : Type 0} → SiteGhosts S → SourceGhosts R → Type 0
FailingHaveBegun {S} {R} s r = (words : Words) (script after : R) (began : Start) (given rest : List Parsed) (start now : S) → IsStartOf (folder_of (s.disk start)) words began
    → Failing s began given start now → given ++ rest ≡ orders (r.left script) → HasBegun (run_of s r words script after start now)

-- ---- with one

-- While a line that ends the run is told, a cut is one of the history, but for a front of this line;
abbrev pub ErrorLinesKeepCuts : {S : Type 0} → SiteGhosts S → Type 0
ErrorLinesKeepCuts {S} s = s.shows → (began : Start) (history : List Line) (line : List ℕ) (start mid now : S) → LeavesOnly s.clock s.left_since start mid (IsCutOf s began history start) → IsErrorLine line
    → IsTelling s line mid now → LeavesOnly s.clock s.left_since start now (CutWith (folder_of (s.disk start)) (s.may_be start) began history (s.told start))

-- so the cuts of a history of the first orders, and those of such a line behind it, are those of the run.
abbrev pub ErrorLinesKeepRuns : {S R : Type 0} → SiteGhosts S → SourceGhosts R → Type 0
ErrorLinesKeepRuns {S} {R} s r = s.shows → (words : Words) (script : R) (began : Start) (given rest : List Parsed) (history : List Line) (last : State) (line : List ℕ) (start mid now : S) → IsStartOf (folder_of (s.disk start)) words began
    → IsHistory began.options (first_of began) given history last → given ++ rest ≡ orders (r.left script) → AreCut s began history start mid → IsErrorLine line → IsTelling s line mid now
    → AreOfRun s words (orders (r.left script)) start now

-- Where a limit is met, and the line that says so is told, whole or in part, the run ends with it.
abbrev pub StoppedEndFull : {S R : Type 0} → SiteGhosts S → SourceGhosts R → Type 0
StoppedEndFull {S} {R} s r = s.shows → (words : Words) (script after : R) (began : Start) (given : List Parsed) (order : Parsed) (rest : List Parsed) (limit : ℕ) (start mid now : S) → IsStartOf (folder_of (s.disk start)) words began
    → (t : Stopped s began given start mid) → given ++ order ∷ rest ≡ orders (r.left script) → PassesIn (folder_of (s.disk start)) began t.history t.last (order ∷ rest) limit → HasTold s (full_line limit) mid now
    → TellsEndInPart (run_of s r words script after start now) (EndsFull (run_of s r words script after start now))

-- ---- whatever the status

-- The cuts of a history of the first orders are those of the run,
abbrev pub CutsAreOfRun : {S R : Type 0} → SiteGhosts S → SourceGhosts R → Type 0
CutsAreOfRun {S} {R} s r = (words : Words) (script : R) (began : Start) (given rest : List Parsed) (history : List Line) (last : State) (start now : S) → IsStartOf (folder_of (s.disk start)) words began
    → IsHistory began.options (first_of began) given history last → given ++ rest ≡ orders (r.left script) → AreCut s began history start now
    → AreOfRun s words (orders (r.left script)) start now

-- and the logs on which a store stands are whole.
abbrev pub StoresLeaveLogsWhole : Type 0
StoresLeaveLogsWhole = (held : Held) (store : Stored) (disk : Disk) → StandsFor [] held store disk → IsOnDisk store (now_of held) (folder_of disk) → AreLogsWhole disk
