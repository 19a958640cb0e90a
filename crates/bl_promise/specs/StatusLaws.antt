-- Laws of statuses: what has to be shown at each, for the headline's records.
use Rattle.std.specs.Prelude.{◌≡◌, ◌⊎◌, ℕ, ◌^◌, List, []}
use Rattle.bl_site.specs.Disk.{Name, folder_of, written_of}
use Rattle.bl_site.specs.declared.site.Site.{Ghosts as SiteGhosts}
use Rattle.bl_site.specs.declared.source.Source.{Ghosts as SourceGhosts}
use Rattle.bl_entry.specs.Revisions.{Map}
use Rattle.bl_records.specs.Chance.{NoChanceMatch}
use Rattle.bl_folder.specs.Settled.{IsSettled}
use Rattle.bl_folder.specs.Stands.{Stands}
use Rattle.bl_open.specs.Options.{Words}
use Rattle.bl_open.specs.Found.{IsLeftStanding}
use Rattle.bl_open.specs.Recovering.{CutsAtBarrier, IsFull, IsRefused}
use Rattle.bl_open.specs.declared.error.OpenErr.TheVariants as opening
use Rattle.bl_script.specs.declared.command.Parsed.{Parsed}
use Rattle.bl_machine.specs.History.{orders}
use Rattle.bl_promise.specs.Cuts.{IsErrorLine, as_it_reads, corrupt_line, differ_line, full_line}
use Rattle.bl_promise.specs.Run.{run_of}
use Rattle.bl_promise.specs.Telling.{EndsCorrupt, EndsDiffer, EndsFull, HasBegun, HasFaltered, HasRun, HasTaken, TellsEnd, TellsEndInPart}
use Rattle.bl_promise.specs.Headline.{AnswersAsMap, AreLogsWhole, Ends, IsPastOpening, IsUnbroken, SurvivesCuts}
use Rattle.bl_promise.specs.Serving.{AreOfOpening, AreOfRun, HasTold}
use Rattle.bl_promise.specs.EndingLaws.{IsTelling}
use Rattle.bl_promise.specs.declared.status.Status.{Status}
use Rattle.bl_promise.specs.declared.status.Status.TheVariants.{Done, TellFault, DiskFault, OutOfMemory, ReadFault, Long, Full, Differ}

-- ---- without a cut: what each status asks for

abbrev pub DoneAnswers : {S R : Type 0} → SiteGhosts S → SourceGhosts R → Type 0
DoneAnswers {S} {R} s r = (words : Words) (script after : R) (start now : S) → HasRun (run_of s r words script after start now) → AnswersAsMap (run_of s r words script after start now) Done

abbrev pub TakenAnswers : {S R : Type 0} → SiteGhosts S → SourceGhosts R → Type 0
TakenAnswers {S} {R} s r = (words : Words) (script after : R) (start now : S) (status : Status) → (status ≡ ReadFault) ⊎ (status ≡ Long) → HasTaken (run_of s r words script after start now) (status ≡ Long)
    → AnswersAsMap (run_of s r words script after start now) status

abbrev pub FullAnswers : {S R : Type 0} → SiteGhosts S → SourceGhosts R → Type 0
FullAnswers {S} {R} s r = (words : Words) (script after : R) (start now : S) → TellsEnd (run_of s r words script after start now) (EndsFull (run_of s r words script after start now))
    → AnswersAsMap (run_of s r words script after start now) Full

abbrev pub DifferAnswers : {S R : Type 0} → SiteGhosts S → SourceGhosts R → Type 0
DifferAnswers {S} {R} s r = (words : Words) (script after : R) (start now : S) → AnswersAsMap (run_of s r words script after start now) Differ

abbrev pub FailuresAnswer : {S R : Type 0} → SiteGhosts S → SourceGhosts R → Type 0
FailuresAnswer {S} {R} s r = (words : Words) (script after : R) (start now : S) (status : Status) → (status ≡ DiskFault) ⊎ (status ≡ OutOfMemory)
    → (s.told now ≡ s.told start) ⊎ HasBegun (run_of s r words script after start now) → AnswersAsMap (run_of s r words script after start now) status

abbrev pub FaltersAnswer : {S R : Type 0} → SiteGhosts S → SourceGhosts R → Type 0
FaltersAnswer {S} {R} s r = (words : Words) (script after : R) (start now : S) → HasBegun (run_of s r words script after start now) → HasFaltered (run_of s r words script after start now)
    → AnswersAsMap (run_of s r words script after start now) TellFault

abbrev pub LinesInPartAnswer : {S R : Type 0} → SiteGhosts S → SourceGhosts R → Type 0
LinesInPartAnswer {S} {R} s r = (words : Words) (script after : R) (start now : S) → TellsEndInPart (run_of s r words script after start now) (Ends (run_of s r words script after start now))
    → AnswersAsMap (run_of s r words script after start now) TellFault

-- ---- with a cut

-- Cuts of the run, with what is so of the disk left, survive;
abbrev pub CutsSurvive : {S R : Type 0} → SiteGhosts S → SourceGhosts R → Type 0
CutsSurvive {S} {R} s r = (words : Words) (script after : R) (start now : S) (status : Status) → AreOfRun s words (orders (r.left script)) start now
    → s.left_since now (s.clock start) (as_it_reads (s.disk now) (s.told now)) → (NoChanceMatch (folder_of (s.disk now)) (written_of (s.disk now)) → IsSettled (s.disk now))
    → (IsUnbroken (run_of s r words script after start now) status → AreLogsWhole (s.disk now)) → SurvivesCuts (run_of s r words script after start now) status

-- so do those of a run whose opening failed;
abbrev pub OpeningsSurvive : {S R : Type 0} → SiteGhosts S → SourceGhosts R → Type 0
OpeningsSurvive {S} {R} s r = (words : Words) (script after : R) (start now : S) (status : Status) → AreOfOpening s words (orders (r.left script)) start now
    → (IsPastOpening (run_of s r words script after start now) status → ⊥) → (IsUnbroken (run_of s r words script after start now) status → ⊥)
    → s.left_since now (s.clock start) (as_it_reads (s.disk now) (s.told now)) → (NoChanceMatch (folder_of (s.disk now)) (written_of (s.disk now)) → IsSettled (s.disk now))
    → SurvivesCuts (run_of s r words script after start now) status

-- and the cuts of an opening, whether or not it failed, are cuts of the run,
abbrev pub OpeningsCutRuns : {S : Type 0} → SiteGhosts S → Type 0
OpeningsCutRuns {S} s = (words : Words) (m : Map) (given : List Parsed) (start now : S) → Stands (folder_of (s.disk start)) m → CutsAtBarrier s (IsLeftStanding (folder_of (s.disk start)) m) start now
    → AreOfOpening s words given start now

-- also while a line that ends the run is told behind it.
abbrev pub RefusedOpeningsCutRuns : {S : Type 0} → SiteGhosts S → Type 0
RefusedOpeningsCutRuns {S} s = s.shows → (words : Words) (m : Map) (given : List Parsed) (line : List ℕ) (start mid now : S) → Stands (folder_of (s.disk start)) m → CutsAtBarrier s (IsLeftStanding (folder_of (s.disk start)) m) start mid
    → IsErrorLine line → IsTelling s line mid now → AreOfOpening s words given start now

-- ---- a refused opening

-- An opening that is refused tells so, in whole or in part: a word that is not the stored option,
abbrev pub DiffersEnd : {S R : Type 0} → SiteGhosts S → SourceGhosts R → Type 0
DiffersEnd {S} {R} s r = (words : Words) (script after : R) (option stored asked : ℕ) (start mid now : S) → IsRefused (folder_of (s.disk start)) words (opening.Differ option stored asked)
    → s.told mid ≡ s.told start → folder_of (s.disk mid) ≡ folder_of (s.disk start) → HasTold s (differ_line option stored asked) mid now
    → TellsEndInPart (run_of s r words script after start now) (EndsDiffer (run_of s r words script after start now))

-- or the first damage, of a folder that is not sound.
abbrev pub DamageEnds : {S R : Type 0} → SiteGhosts S → SourceGhosts R → Type 0
DamageEnds {S} {R} s r = (words : Words) (script after : R) (name : Name) (place : ℕ) (start mid now : S) → IsRefused (folder_of (s.disk start)) words (opening.Corrupt name place)
    → s.told mid ≡ s.told start → folder_of (s.disk mid) ≡ folder_of (s.disk start) → HasTold s (corrupt_line name place) mid now
    → TellsEndInPart (run_of s r words script after start now) (EndsCorrupt (run_of s r words script after start now))

-- An opening that would take more numbers than are left tells so, and nothing was obeyed.
abbrev pub FullOpeningsEnd : {S R : Type 0} → SiteGhosts S → SourceGhosts R → Type 0
FullOpeningsEnd {S} {R} s r = s.shows → (words : Words) (script after : R) (m : Map) (start mid now : S) → Stands (folder_of (s.disk start)) m → IsFull (folder_of (s.disk start)) words
    → s.told mid ≡ s.told start → Stands (folder_of (s.disk mid)) m → (IsSettled (s.disk start) → CutsAtBarrier s (IsLeftStanding (folder_of (s.disk start)) m) start mid)
    → HasTold s (full_line (10 ^ 15)) mid now
    → TellsEndInPart (run_of s r words script after start now) (EndsFull (run_of s r words script after start now))

-- A line that was told whole, was told.
abbrev pub LinesAreTold : {S R : Type 0} → SiteGhosts S → SourceGhosts R → Type 0
LinesAreTold {S} {R} s r = (words : Words) (script after : R) (start now : S)
    → ((t : TellsEndInPart (run_of s r words script after start now) (EndsFull (run_of s r words script after start now))) → t.front.rest ≡ [] → TellsEnd (run_of s r words script after start now) (EndsFull (run_of s r words script after start now)))
    × ((t : TellsEndInPart (run_of s r words script after start now) (EndsDiffer (run_of s r words script after start now))) → t.front.rest ≡ [] → TellsEnd (run_of s r words script after start now) (EndsDiffer (run_of s r words script after start now)))
    × ((t : TellsEndInPart (run_of s r words script after start now) (EndsCorrupt (run_of s r words script after start now))) → t.front.rest ≡ [] → TellsEnd (run_of s r words script after start now) (EndsCorrupt (run_of s r words script after start now)))
