-- Laws of steady disks.
use Rattle.std.specs.Prelude.{◌≡◌, ◌≢◌, ℕ, ◌+◌, ◌<◌, ◌≤◌, ◌^◌, unwrap_or, Ok, false, List, [], ◌∷◌, ◌++◌, length, Some, None}
use Rattle.bl_site.specs.Disk.{Name, File, Disk, Cut, IsCut, IsRemnant, MayLeave, folder_of, written_of}
use Rattle.bl_site.specs.Calls.{Creates, Renames, Syncs, DoneOrNot, MayDuring}
use Rattle.bl_names.specs.declared.name.FileName.TheVariants.{Current, Log, Temp}
use Rattle.bl_names.specs.Names.{HasNumber, IsNumber, name_of, manifest_name}
use Rattle.bl_entry.specs.Batches.{Batch}
use Rattle.bl_entry.specs.Revisions.{Map, Revision, after_operations}
use Rattle.bl_edit.specs.declared.edit.Edit.{Edit}
use Rattle.bl_build.specs.Listing.{Listing}
use Rattle.bl_build.specs.Restoring.{Restored, restored_by}
use Rattle.bl_records.specs.Chance.{NoChanceMatch}
use Rattle.bl_build.specs.Versions.{IsVersion, apply}
use Rattle.bl_wal.specs.LogFile.{LogFile, log_name, new_log}
use Rattle.bl_wal.specs.Held.{HoldsBatches}
use Rattle.bl_manifest.specs.ManifestFile.{ManifestFile, record_bytes}
use Rattle.bl_manifest.specs.Held.{Edits, AreReadBack, HoldsEdits}
use Rattle.bl_records.specs.Writing.{AppendsPartly}
use Rattle.bl_folder.specs.Files.{log_bytes}
use Rattle.bl_folder.specs.Logs.{HaveBatches}
use Rattle.bl_folder.specs.Holding.{Holding, Holds}
use Rattle.bl_folder.specs.Stands.{IsSound, Stands, StandsLive}
use Rattle.bl_folder.specs.Fronts.{StandsFirst}
use Rattle.bl_folder.specs.Settled.{IsSynced, IsSettled}
use Rattle.bl_folder.specs.Needed.{IsNeeded}
use Rattle.bl_names.specs.declared.name.FileName.{FileName}
use Rattle.bl_open.specs.Steady.{Maps, Steady, durable, accepted, IsUsable, HasFiles, MakesMaps, IsBacked, IsSteady, AreSteady}
use Rattle.bl_folder.specs.Installing.{standing_behind}
use Rattle.bl_open.specs.Installations.{Begins, Flushes, IsBeside, IsFileOf, MapsFollow, Rewrites, TablesMake}
use Rattle.bl_open.specs.SteadyCalls.{KeepsAllBut, KeepsAllButTwo, IsUnneeded, IsQuietCall, IsNextBatch, wrote, with_batch, switched, Installs, installed, begun, IsAtRest, KeepsRest, Rests, IsSpare, IsPastBarrier, IsReady, HasText}
use Rattle.bl_open.specs.SteadyCuts.{IsLeftFor, LeavesMap}

-- ---- what a steady disk is

-- While no call has failed, the folder reads as what is held,
abbrev pub SteadyHold : Type 0
SteadyHold = (maps : Maps) (s : Steady) (disk : Disk) → IsSteady maps s disk → IsUsable s → Holds (folder_of disk) s.manifest.number s.holding

-- as its files are written they hold it also once a call has failed,
abbrev pub SteadyHoldWritten : Type 0
SteadyHoldWritten = (maps : Maps) (s : Steady) (disk : Disk) → IsSteady maps s disk → Holds (written_of disk) s.manifest.number s.holding

-- with the first of its batches counted it stands for these maps,
abbrev pub SteadyStandFirst : Type 0
SteadyStandFirst = (maps : Maps) (s : Steady) (disk : Disk) → IsSteady maps s disk → IsUsable s → (count : ℕ) → count ≤ length s.holding.batches
    → StandsFirst (folder_of disk) count (maps (s.before + count))

-- and with all of them for the last one.
abbrev pub SteadyStand : Type 0
SteadyStand = (maps : Maps) (s : Steady) (disk : Disk) → IsSteady maps s disk → IsUsable s → StandsLive (folder_of disk) (maps (accepted s))

-- While no call of the manifest has failed, it is settled.
abbrev pub SteadyAreSettled : Type 0
SteadyAreSettled = (maps : Maps) (s : Steady) (disk : Disk) → IsSteady maps s disk → s.manifest.failed ≡ false → IsSettled disk

-- Wherever a log has a byte, no needed log of a lower number has an unsynced one.
abbrev pub LogsAreWhole : Type 0
LogsAreWhole = (maps : Maps) (s : Steady) (disk : Disk) → IsSteady maps s disk → (lower upper : ℕ) → IsNumber lower → s.holding.live.standing.log_number ≤ lower → lower < upper
    → log_bytes (written_of disk) upper ≢ [] → IsSynced disk (Log lower)

-- ---- cuts

-- A cut leaves the map after some first writes, all durable ones among them;
abbrev pub CutsOfSteady : Type 0
CutsOfSteady = (maps : Maps) (s : Steady) (disk : Disk) (told : List ℕ) (c : Cut) → IsSteady maps s disk → IsCut disk told c → LeavesMap maps (durable s) (accepted s) told c

-- where all are synced, after all, whatever checksum may match by chance.
abbrev pub SyncedAreLeft : Type 0
SyncedAreLeft = (maps : Maps) (s : Steady) (disk : Disk) (told : List ℕ) (c : Cut) → IsSteady maps s disk → s.synced ≡ length s.own → IsCut disk told c
    → IsLeftFor (maps (accepted s)) c

-- How a disk reads is one of its cuts, where each file reads as a cut may leave it.
abbrev pub ReadsAreCuts : Type 0
ReadsAreCuts = (disk : Disk) (told : List ℕ) → ((name : Name) (x : File) → disk name ≡ Some x → IsRemnant x x.read)
    → IsCut disk told (record { folder = folder_of disk; told = told; written = written_of disk })

-- So it is where each disk that there may be is steady.
abbrev pub CutsOfAll : Type 1
CutsOfAll = (maps : Maps) (s : Steady) (may_be : Disk → Type 0) (told : List ℕ) (c : Cut) → AreSteady maps s may_be → MayLeave may_be told c → LeavesMap maps (durable s) (accepted s) told c

-- ---- quiet calls

-- A quiet call keeps a disk steady,
abbrev pub QuietKeepsSteady : Type 0
QuietKeepsSteady = (maps : Maps) (s : Steady) (old new : Disk) → IsSteady maps s old → IsQuietCall s old new → IsSteady maps s new

-- and so does a name call that may be done or not: each disk that there may be meanwhile is steady.
abbrev pub QuietCallsKeepAll : Type 1
QuietCallsKeepAll = (maps : Maps) (s : Steady) (call : Disk → Disk → Type 0) (may_be : Disk → Type 0) → ((old new : Disk) → call old new → IsQuietCall s old new)
    → AreSteady maps s may_be → AreSteady maps s (MayDuring call may_be)

-- A file that is not needed has a name that is not;
abbrev pub UnneededByName : Type 0
UnneededByName = (maps : Maps) (s : Steady) (disk : Disk) (f : FileName) → IsSteady maps s disk → HasNumber f → (IsNeeded s.manifest.number s.holding.live f → ⊥) → IsUnneeded s (name_of f)

-- a call on such a name is quiet, a rename between two of them,
abbrev pub UnneededAreQuiet : Type 0
UnneededAreQuiet = (s : Steady) (name : Name) (old new : Disk) → IsUnneeded s name → KeepsAllBut name old new → IsQuietCall s old new

abbrev pub RenamesAreQuiet : Type 0
RenamesAreQuiet = (s : Steady) (one two : Name) (old new : Disk) → IsUnneeded s one → IsUnneeded s two → KeepsAllButTwo one two old new → IsQuietCall s old new

-- and the making of a log behind the log in use.
abbrev pub NewLogsAreQuiet : Type 0
NewLogsAreQuiet = (maps : Maps) (s : Steady) (number : ℕ) (old new : Disk) → IsSteady maps s old → IsNumber number → s.log.number < number → Creates (log_name number) old new
    → IsQuietCall s old new

-- ---- writes and syncs

-- What is held is sound with one batch more, for the map after its operations.
abbrev pub BatchesMakeMaps : Type 0
BatchesMakeMaps = (maps : Maps) (s : Steady) (disk : Disk) (b : Batch) → IsSteady maps s disk → IsNextBatch s b
    → (found : List Revision) × IsSound (with_batch s.holding b) found (after_operations b.operations (maps (accepted s)))

-- A write keeps a disk steady, also where the folder failed: one batch more is written.
abbrev pub WritesKeepSteady : Type 0
WritesKeepSteady = (maps : Maps) (s : Steady) (b : Batch) (log : LogFile) (old new : Disk) → IsSteady maps s old → IsNextBatch s b → log.number ≡ s.log.number
    → KeepsAllBut (log_name s.log.number) old new → HoldsBatches new log (s.own ++ b ∷ []) s.synced
    → maps (accepted s + 1) ≡ after_operations b.operations (maps (accepted s)) → IsSteady maps (wrote s b log) new

-- So does a sync of the log in use; as many of its batches are synced then as it says.
abbrev pub SyncsKeepSteady : Type 0
SyncsKeepSteady = (maps : Maps) (s : Steady) (log : LogFile) (synced : ℕ) (old new : Disk) → IsSteady maps s old → log.number ≡ s.log.number
    → KeepsAllBut (log_name s.log.number) old new → HoldsBatches new log s.own synced → IsSteady maps (record s { log = log; synced = synced }) new

-- Once the log in use is synced, and the next one is made, that one is in use.
abbrev pub SwitchesKeepSteady : Type 0
SwitchesKeepSteady = (maps : Maps) (s : Steady) (number : ℕ) (old new : Disk) → IsSteady maps s old → s.log.failed ≡ false → s.synced ≡ length s.own
    → IsNumber number → s.log.number < number → Creates (log_name number) old new → HoldsBatches new (new_log number) [] 0 → IsSteady maps (switched s number) new

-- ---- installations

-- While an edit is appended to the manifest and synced, a cut leaves the map after the same writes;
abbrev pub CutsOfInstalling : Type 0
CutsOfInstalling = (maps : Maps) (s : Steady) (e : Edit) (h : Holding) (before below : ℕ) (disk during : Disk) (told : List ℕ) (c : Cut) → IsSteady maps s disk → s.manifest.failed ≡ false
    → AreReadBack (e ∷ []) → Installs maps s e h before below disk
    → DoneOrNot (AppendsPartly (manifest_name s.manifest.number) (record_bytes s.manifest.place e)) disk during → IsCut during told c
    → LeavesMap maps (durable s) (accepted s) told c

-- also where it fails it leaves the disk settled, unless a checksum matches by chance as the folder reads.
abbrev pub TornInstallsAreSettled : Type 0
TornInstallsAreSettled = (maps : Maps) (s : Steady) (e : Edit) (h : Holding) (before below : ℕ) (disk new : Disk) → IsSteady maps s disk → s.manifest.failed ≡ false
    → AreReadBack (e ∷ []) → Installs maps s e h before below disk
    → DoneOrNot (AppendsPartly (manifest_name s.manifest.number) (record_bytes s.manifest.place e)) disk new
    → ((name : Name) (x : File) → new name ≡ Some x → IsRemnant x x.read) → NoChanceMatch (folder_of new) (written_of new) → IsSettled new

-- It holds as many writes as before,
abbrev pub InstallsKeepCounts : Type 0
InstallsKeepCounts = (maps : Maps) (s : Steady) (e : Edit) (h : Holding) (before below : ℕ) (manifest : ManifestFile) (disk : Disk) → IsSteady maps s disk → Installs maps s e h before below disk
    → (durable (installed s e h before below manifest) ≡ durable s) × (accepted (installed s e h before below manifest) ≡ accepted s)

-- and then the disk is steady with what was installed.
abbrev pub InstallsKeepSteady : Type 0
InstallsKeepSteady = (maps : Maps) (s : Steady) (e : Edit) (h : Holding) (before below : ℕ) (manifest : ManifestFile) (old new : Disk) → IsSteady maps s old
    → Installs maps s e h before below old → manifest.number ≡ s.manifest.number → KeepsAllBut (manifest_name s.manifest.number) old new
    → HoldsEdits new manifest (s.edits ++ e ∷ []) (length s.edits + 1) → IsSteady maps (installed s e h before below manifest) new

-- One edit more restores what it makes of the version, and the single fields that it gives.
abbrev pub EditsRestore : Type 0
EditsRestore = (es : Edits) (e : Edit) (r : Restored) (v : Listing) → restored_by es ≡ Some r → apply r.version e ≡ Ok v
    → unwrap_or e.next_file r.standing.next_file ≤ 10 ^ 15 → restored_by (es ++ e ∷ []) ≡ Some (record { version = v; standing = standing_behind r.standing e })

-- ---- what a flush, a compaction and an opening have to show

-- The maps of a steady disk follow one another by its batches;
abbrev pub StepsFollow : Type 0
StepsFollow = (maps : Maps) (s : Steady) (disk : Disk) → IsSteady maps s disk → MapsFollow maps s.before s.holding.batches

-- so it is enough that the tables alone make the first one.
abbrev pub FrontsFollow : Type 0
FrontsFollow = (maps : Maps) (before : ℕ) (h : Holding) (disk : Disk) → HasFiles h disk
    → HaveBatches (written_of disk) h.live.standing.log_number h.live.standing.last_sequence h.batches h.last
    → TablesMake maps before h → MapsFollow maps before h.batches → MakesMaps maps before h

-- The tables and blob files of a version stay while another file is made or changed, and so does all that is needed beside CURRENT and the manifest.
abbrev pub FilesStay : Type 0
FilesStay = (h : Holding) (f : FileName) (old new : Disk) → IsVersion h.live.version → HasNumber f → (IsFileOf h.live.version f → ⊥) → KeepsAllBut (name_of f) old new → HasFiles h old → HasFiles h new

abbrev pub BackedStay : Type 0
BackedStay = (maps : Maps) (s : Steady) (f : FileName) (old new : Disk) → IsVersion s.holding.live.version → HasNumber f → (IsBeside s.holding.live f → ⊥) → KeepsAllBut (name_of f) old new
    → IsBacked maps s old → IsBacked maps s new

-- A flush installs what it made,
abbrev pub FlushesInstall : Type 0
FlushesInstall = (maps : Maps) (s : Steady) (e : Edit) (h : Holding) (disk : Disk) → IsSteady maps s disk → Flushes maps s e h disk → Installs maps s e h (s.before + s.below) 0 disk

-- and so does a compaction.
abbrev pub RewritesInstall : Type 0
RewritesInstall = (maps : Maps) (s : Steady) (e : Edit) (h : Holding) (disk : Disk) → IsSteady maps s disk → Rewrites maps s e h disk → Installs maps s e h s.before s.below disk

-- An opening makes all that CURRENT and the manifest need beside them.
abbrev pub BeginningsAreBacked : Type 0
BeginningsAreBacked = (maps : Maps) (before number : ℕ) (manifest : ManifestFile) (edits : Edits) (h : Holding) (disk : Disk) → Begins maps before number h disk
    → IsBacked maps (begun manifest edits number h before) disk

-- ---- openings

-- A disk at rest stays so in a quiet call, and a cut leaves the map that it stands for.
abbrev pub QuietKeepsRest : Type 0
QuietKeepsRest = (manifest : ℕ) (live : Restored) (m : Map) (old new : Disk) → IsAtRest manifest live m old → KeepsRest manifest live old new → IsAtRest manifest live m new

abbrev pub CutsOfRest : Type 0
CutsOfRest = (manifest : ℕ) (live : Restored) (m : Map) (disk : Disk) (told : List ℕ) (c : Cut) → IsAtRest manifest live m disk → IsCut disk told c → IsLeftFor m c

-- So it is with a fresh folder too.
abbrev pub CutsOfResting : Type 0
CutsOfResting = (m : Map) (disk : Disk) (told : List ℕ) (c : Cut) → Rests m disk → IsCut disk told c → Stands c.folder m

-- A sync changes nothing that reads, the file is synced then, and what was synced stays so;
abbrev pub SyncsSync : Type 0
SyncsSync = (f : FileName) (old new : Disk) → Syncs (name_of f) old new → (folder_of new ≡ folder_of old) × IsSynced new f × ((g : FileName) → IsSynced old g → IsSynced new g)

-- and a settled disk stays settled.
abbrev pub SyncsKeepSettled : Type 0
SyncsKeepSettled = (f : FileName) (old new : Disk) → HasNumber f → Syncs (name_of f) old new → IsSettled old → IsSettled new

-- Past the barrier a settled disk rests;
abbrev pub SettledRest : Type 0
SettledRest = (m : Map) (disk : Disk) → IsSettled disk → Stands (folder_of disk) m → IsPastBarrier disk → Rests m disk

-- and it does while spare files are made and changed, and the next log is made.
abbrev pub SparesKeepRest : Type 0
SparesKeepRest = (m : Map) (f : FileName) (old new : Disk) → HasNumber f → IsSpare f old → KeepsAllBut (name_of f) old new → Rests m old → Rests m new

abbrev pub NewLogsKeepRest : Type 0
NewLogsKeepRest = (m : Map) (number : ℕ) (old new : Disk) → IsNumber number → old (log_name number) ≡ None → Creates (log_name number) old new → Rests m old → Rests m new

-- While the text of CURRENT is written to a temporary file, all stays,
abbrev pub TempsKeepRest : Type 0
TempsKeepRest = (m : Map) (temp : ℕ) (old new : Disk) → IsNumber temp → KeepsAllBut (name_of (Temp temp)) old new → Rests m old → Rests m new

abbrev pub TempsKeepReady : Type 0
TempsKeepReady = (maps : Maps) (s : Steady) (temp : ℕ) (old new : Disk) → IsNumber temp → KeepsAllBut (name_of (Temp temp)) old new → IsReady maps s old → IsReady maps s new

-- and once it is renamed to CURRENT, the disk is steady with the new manifest.
abbrev pub RenamesMakeSteady : Type 0
RenamesMakeSteady = (maps : Maps) (s : Steady) (temp : ℕ) (old new : Disk) → IsReady maps s old → IsNumber temp → HasText temp s.manifest.number old
    → Renames (name_of (Temp temp)) (name_of Current) old new → IsSteady maps s new
