-- Laws of refusals: what has to be shown of them, for the headline's record.
use Rattle.std.specs.Prelude.{◌≡◌, ◌≢◌}
use Rattle.bl_site.specs.Disk.{Folder, Name, folder_of}
use Rattle.bl_site.specs.Calls.{LeavesOnly}
use Rattle.bl_site.specs.declared.site.Site.{Ghosts as SiteGhosts}
use Rattle.bl_site.specs.declared.source.Source.{Ghosts as SourceGhosts}
use Rattle.bl_names.specs.Names.{IsNumber}
use Rattle.bl_open.specs.Keeping.{IsNoLogOrManifest, IsOld}
use Rattle.bl_open.specs.Options.{Words}
use Rattle.bl_open.specs.Recovering.{IsFull, IsRefused}
use Rattle.bl_open.specs.declared.error.OpenErr.{OpenErr}
use Rattle.bl_store.specs.Calls.{IsOwn}
use Rattle.bl_store.specs.Stored.{Stored}
use Rattle.bl_promise.specs.Cuts.{IsBeforeOrFinds}
use Rattle.bl_promise.specs.Run.{run_of}
use Rattle.bl_promise.specs.Telling.{EndsCorrupt, EndsDiffer, TellsEnd}
use Rattle.bl_promise.specs.Headline.{IsFailure, IsForeign, OrFails, Refuses}
use Rattle.bl_promise.specs.declared.status.Status.{Status}
use Rattle.bl_promise.specs.declared.status.Status.TheVariants.{Corrupt, Full, Differ}

-- what is so at each status: no cut that finds no file of the opening is behind its barrier, and foreign names stay
pub record LeavesAlone {S : Type 0} (s : SiteGhosts S) (start now : S) : Type 0 where
  pub before : LeavesOnly s.clock s.left_since start now (IsBeforeOrFinds (folder_of (s.disk start)) (s.may_be start) (s.told start))
  pub others : (name : Name) → IsForeign name → s.disk now name ≡ s.disk start name

-- Where the folder was opened, it was neither refused nor full;
abbrev pub OpenedRefuse : {S R : Type 0} → SiteGhosts S → SourceGhosts R → Type 0
OpenedRefuse {S} {R} s r = (words : Words) (script after : R) (start now : S) (status : Status) → status ≢ Corrupt → status ≢ Differ
    → ((e : OpenErr) → IsRefused (folder_of (s.disk start)) words e → ⊥) → (IsFull (folder_of (s.disk start)) words → ⊥) → LeavesAlone s start now → Refuses (run_of s r words script after start now) status

-- where it was full, the limit is told, or a call failed;
abbrev pub FullRefuse : {S R : Type 0} → SiteGhosts S → SourceGhosts R → Type 0
FullRefuse {S} {R} s r = (words : Words) (script after : R) (start now : S) (status : Status) → OrFails Full status → IsFull (folder_of (s.disk start)) words → LeavesAlone s start now
    → Refuses (run_of s r words script after start now) status

-- where a word is not the stored option, and where a file is damaged, that is told;
abbrev pub DifferRefuse : {S R : Type 0} → SiteGhosts S → SourceGhosts R → Type 0
DifferRefuse {S} {R} s r = (words : Words) (script after : R) (start now : S) → TellsEnd (run_of s r words script after start now) (EndsDiffer (run_of s r words script after start now)) → LeavesAlone s start now
    → Refuses (run_of s r words script after start now) Differ

abbrev pub CorruptRefuse : {S R : Type 0} → SiteGhosts S → SourceGhosts R → Type 0
CorruptRefuse {S} {R} s r = (words : Words) (script after : R) (start now : S) → TellsEnd (run_of s r words script after start now) (EndsCorrupt (run_of s r words script after start now))
    → (IsFull (folder_of (s.disk start)) words → ⊥) → LeavesAlone s start now → Refuses (run_of s r words script after start now) Corrupt

-- and a failure may stand in the place of each.
abbrev pub FailuresRefuse : {S R : Type 0} → SiteGhosts S → SourceGhosts R → Type 0
FailuresRefuse {S} {R} s r = (words : Words) (script after : R) (start now : S) (status : Status) → IsFailure status → LeavesAlone s start now → Refuses (run_of s r words script after start now) status

-- ---- foreign names

-- An opening keeps a foreign name with the files that it found,
abbrev pub ForeignAreFound : Type 0
ForeignAreFound = (folder : Folder) (name : Name) → IsForeign name → IsOld folder name × IsNoLogOrManifest name

-- and no call of a store writes one.
abbrev pub ForeignAreNotOwn : Type 0
ForeignAreNotOwn = (old new : Stored) (name : Name) → IsNumber old.log.number → IsNumber old.manifest.number → IsForeign name → IsOwn old new name → ⊥
