-- What a compaction keeps.
use Rattle.std.specs.Prelude.{◌≡◌, ◌≢◌, ◌⊎◌, ℕ, ◌<◌, ◌≤◌, ◌^◌, Bool, false, List, [], ◌++◌, length, Contains, Some, Ok}
use Rattle.std.specs.List.{AllByRecursion}
use Rattle.bl_edit.specs.declared.edit.Edit.{Edit}
use Rattle.bl_entry.specs.declared.key.Entry.{Entry}
use Rattle.bl_entry.specs.Revisions.{Map, Revision, value_at}
use Rattle.bl_edit.specs.Options.{Values}
use Rattle.bl_build.specs.Listing.{Ascends, Listing}
use Rattle.bl_build.specs.Versions.{IsVersion, apply, table_numbers}
use Rattle.bl_out.specs.References.{references}
use Rattle.bl_site.specs.Disk.{Folder}
use Rattle.bl_folder.specs.Entries.{records_by}
use Rattle.bl_folder.specs.Holding.{BlobFile, Holding, Holds}
use Rattle.bl_out.specs.Tables.{TableFile, table_entries, IsAsNamed}
use Rattle.bl_out.specs.Values.{revision_of}
use Rattle.bl_folder.specs.Stands.{IsSound}
use Rattle.bl_compacted.specs.Shuffles.{Shuffled}
use Rattle.bl_compacted.specs.Plans.{IsClosed, inputs_of, is_input, staying}
use Rattle.bl_build.specs.declared.plan.CompactionPlan.{CompactionPlan as Plan}
use Rattle.bl_pick.specs.Picking.{due, full_plan}
use Rattle.bl_compacted.specs.Plans.{IsPlan}
use Rattle.bl_compacted.specs.Installing.{compacted}
use Rattle.bl_folder.specs.Flushes.{metas}
use Rattle.bl_compacted.specs.Outputs.{IsRanged, numbers}
use Rattle.bl_compacted.specs.Compacting.{Compacts, IsHeld}
use Rattle.bl_compacted.specs.Rewriting.{MayInstall, Rewrites}

-- a snapshot of the plan, or a sequence that no input is ahead of
abbrev pub IsKeptAt : Plan → List Entry → ℕ → Type 0
IsKeptAt plan ins s = Contains plan.snapshots s ⊎ AllByRecursion (λ e. e.key.seq ≤ s) ins

-- The edit of a compaction is accepted, and leads to this version.
abbrev pub CompactionsInstall : Type 0
CompactionsInstall = (plan : Plan) (h : Holding) (found : List Revision) (m : Map) (new : List TableFile) (made : List BlobFile) (e : Edit)
    → IsSound h found m → IsHeld h → Compacts plan h new made e → apply h.live.version e ≡ Ok (compacted e new made h).live.version

-- What is held is sound again, and stands for the same map; and so it reads at each snapshot of the plan, and at each sequence that no input is ahead of.
pub record Keeps (plan : Plan) (ins : List Entry) (h after : Holding) (found : List Revision) (m : Map) : Type 0 where
  pub now : List Revision
  pub sound : IsSound after now m
  pub values : (s : ℕ) (key : List ℕ) → IsKeptAt plan ins s → value_at now s key ≡ value_at found s key

abbrev pub CompactionsKeep : Type 0
CompactionsKeep = (plan : Plan) (h : Holding) (found : List Revision) (m : Map) (new : List TableFile) (made : List BlobFile) (e : Edit)
    → IsSound h found m → IsHeld h → (c : Compacts plan h new made e) → Keeps plan c.ins h (compacted e new made h) found m

-- No reference that comes out is to a file below the cutoff, unless the job made the file.
abbrev pub OutputsReachExactly : Type 0
OutputsReachExactly = (plan : Plan) (h : Holding) (found : List Revision) (m : Map) (new : List TableFile) (made : List BlobFile) (e : Edit)
    → IsSound h found m → IsHeld h → Compacts plan h new made e
    → AllByRecursion (λ r. Contains (numbers made) r.index.file ⊎ (plan.cutoff ≤ r.index.file)) (references (table_entries new))

-- The oldest blob file of a new table is none, or one that the job made, or at least the cutoff.
abbrev pub OutputsAreLinkedBehind : Type 0
OutputsAreLinkedBehind = (plan : Plan) (h : Holding) (found : List Revision) (m : Map) (new : List TableFile) (made : List BlobFile) (e : Edit)
    → IsSound h found m → IsHeld h → Compacts plan h new made e
    → AllByRecursion (λ t. (t.meta.oldest_blob ≡ 0) ⊎ (Contains (numbers made) t.meta.oldest_blob ⊎ (plan.cutoff ≤ t.meta.oldest_blob))) new

-- Where all tables went in and every file is below the cutoff, no blob file has garbage after.
abbrev pub FullPlansLeaveNoGarbage : Type 0
FullPlansLeaveNoGarbage = (plan : Plan) (h : Holding) (found : List Revision) (m : Map) (new : List TableFile) (made : List BlobFile) (e : Edit)
    → IsSound h found m → IsHeld h → Compacts plan h new made e → staying plan h.tables ≡ [] → 10 ^ 15 ≤ plan.cutoff
    → AllByRecursion (λ b. (b.meta.garbage.count ≡ 0) × (b.meta.garbage.bytes ≡ 0)) (compacted e new made h).blobs

-- ---- plans

-- the tables of a version, each with an entry and all entries within its range
pub record AreTablesOf (v : Listing) (tables : List TableFile) : Type 0 where
  pub metas : metas tables ≡ v.tables
  pub version : IsVersion v
  pub named : AllByRecursion IsAsNamed tables
  pub ranged : AllByRecursion (λ t. IsRanged t) tables

-- What is due may be carried out, and so may the rewriting of all tables, which leaves none.
abbrev pub DuePlansAreClosed : Type 0
DuePlansAreClosed = (v : Listing) (tables : List TableFile) (options : Values) (waiting : Bool) (snapshots : List ℕ) (plan : Plan)
    → AreTablesOf v tables → IsPlan (due v options waiting snapshots) plan → IsClosed plan tables

abbrev pub FullPlansAreClosed : Type 0
FullPlansAreClosed = (v : Listing) (tables : List TableFile) (snapshots : List ℕ) (plan : Plan)
    → AreTablesOf v tables → full_plan v snapshots ≡ Some plan → IsClosed plan tables × (staying plan tables ≡ []) × (10 ^ 15 ≤ plan.cutoff)

-- The inputs of such a plan are tables of the version, at least one, in ascending order, and the output level is one that there is.
pub record FitsVersion (v : Listing) (plan : Plan) : Type 0 where
  pub inputs : AllByRecursion (λ n. Contains (table_numbers v.tables) n) plan.inputs
  pub ascend : Ascends (λ n. n) plan.inputs
  pub some : 1 ≤ length plan.inputs
  pub level : plan.out_level ≤ 6

abbrev pub DuePlansFit : Type 0
DuePlansFit = (v : Listing) (options : Values) (waiting : Bool) (snapshots : List ℕ) (plan : Plan) → IsVersion v → IsPlan (due v options waiting snapshots) plan → FitsVersion v plan

abbrev pub FullPlansFit : Type 0
FullPlansFit = (v : Listing) (snapshots : List ℕ) (plan : Plan) → IsVersion v → full_plan v snapshots ≡ Some plan → FitsVersion v plan

-- a table that a flush put into level 0 meanwhile: it is none of the inputs, and newer than all of their entries
pub record IsFlushed (plan : Plan) (tables : List TableFile) (t : TableFile) : Type 0 where
  pub level : t.meta.level ≡ 0
  pub other : is_input plan t.meta ≡ false
  pub newer : AllByRecursion (λ x. AllByRecursion (λ u. AllByRecursion (λ y. y.key.seq < x.key.seq) u.entries) (inputs_of plan tables)) t.entries

-- A plan may still be carried out where flushes put tables into level 0 since it was made.
abbrev pub FlushesKeepClosed : Type 0
FlushesKeepClosed = (plan : Plan) (before flushed after : List TableFile) → IsClosed plan before → AllByRecursion (IsFlushed plan before) flushed
    → Shuffled (flushed ++ before) after → IsClosed plan after

-- ---- folders

-- What a folder holds is so (`IsHeld`), where its tables are as the version names them.
abbrev pub HeldByFolders : Type 0
HeldByFolders = (folder : Folder) (manifest : ℕ) (h : Holding) → Holds folder manifest h → AllByRecursion IsAsNamed h.tables → IsHeld h

-- What a job did with its inputs is a compaction of what is held where its edit is installed.
abbrev pub RewritesCompact : Type 0
RewritesCompact = (plan : Plan) (h : Holding) (inputs : List TableFile) (blobs : List BlobFile) (new : List TableFile) (made : List BlobFile) (e : Edit)
    → IsHeld h → Rewrites plan h.live.standing.options.min_blob_size inputs blobs new made e → MayInstall plan h inputs blobs new made → Compacts plan h new made e

-- A job that may be installed may be so still where a flush was installed meanwhile: its tables are in level 0 and newer, what the inputs' entries read as
-- is the same, and no number is one of the job's.
abbrev pub FlushesKeepInstall : Type 0
FlushesKeepInstall = (plan : Plan) (before after : Holding) (inputs : List TableFile) (blobs : List BlobFile) (new : List TableFile) (made : List BlobFile) (flushed : List TableFile)
    → MayInstall plan before inputs blobs new made → AllByRecursion (IsFlushed plan before.tables) flushed → Shuffled (flushed ++ before.tables) after.tables
    → AllByRecursion (λ e. revision_of (records_by before.blobs) e ≡ revision_of (records_by after.blobs) e) (table_entries inputs)
    → AllByRecursion (λ t. AllByRecursion (λ u. u.meta.number ≢ t.meta.number) flushed) new
    → AllByRecursion (λ b. AllByRecursion (λ o. o.meta.number ≢ b.meta.number) after.blobs) made → MayInstall plan after inputs blobs new made
