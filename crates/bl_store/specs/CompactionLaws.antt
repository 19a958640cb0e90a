-- Laws of compactions on steady disks.
use Rattle.std.specs.Prelude.{ℕ, ◌≤◌, List}
use Rattle.bl_site.specs.Disk.{Disk}
use Rattle.bl_edit.specs.declared.edit.Edit.{Edit}
use Rattle.bl_build.specs.declared.plan.CompactionPlan.{CompactionPlan}
use Rattle.bl_entry.specs.Revisions.{Revision}
use Rattle.bl_out.specs.Tables.{TableFile}
use Rattle.bl_folder.specs.Flushes.{IsBelow}
use Rattle.bl_folder.specs.Holding.{BlobFile}
use Rattle.bl_folder.specs.Stands.{IsSound}
use Rattle.bl_compacted.specs.Plans.{inputs_of}
use Rattle.bl_compacted.specs.Compacting.{Compacts, IsHeld}
use Rattle.bl_compacted.specs.Rewriting.{MayInstall, Rewrites}
use Rattle.bl_compacted.specs.Laws.{Keeps}
use Rattle.bl_open.specs.Steady.{Maps, Steady, IsSteady, accepted}
use Rattle.bl_open.specs.SteadyCalls.{Installs}
use Rattle.bl_store.specs.Compacted.{AreBetween, AreFresh, IsDone, MayBegin, compacted_by, with_next}

-- What a steady disk holds has about it all that a compaction asks besides.
abbrev pub SteadyAreHeld : Type 0
SteadyAreHeld = (maps : Maps) (s : Steady) (disk : Disk) → IsSteady maps s disk → IsHeld s.holding

-- A plan that is due of what is held may be installed there, with new numbers;
abbrev pub DueMayInstall : Type 0
DueMayInstall = (maps : Maps) (s : Steady) (disk : Disk) (plan : CompactionPlan) (tables : List TableFile) (made : List BlobFile) → IsSteady maps s disk → MayBegin s.holding.live.version plan
    → AreFresh s.holding tables made → MayInstall plan s.holding (inputs_of plan s.holding.tables) s.holding.blobs tables made

-- and what a job did that may be installed is a compaction of what is held.
abbrev pub JobsAreCompactions : Type 0
JobsAreCompactions = (maps : Maps) (s : Steady) (disk : Disk) (plan : CompactionPlan) (inputs : List TableFile) (blobs : List BlobFile) (tables : List TableFile) (made : List BlobFile) (e : Edit)
    → IsSteady maps s disk → Rewrites plan s.holding.live.standing.options.min_blob_size inputs blobs tables made e → MayInstall plan s.holding inputs blobs tables made
    → Compacts plan s.holding tables made e

-- Numbers from one on that is above all of the version are new;
abbrev pub NumbersAreFresh : Type 0
NumbersAreFresh = (maps : Maps) (s : Steady) (disk : Disk) (from next : ℕ) (tables : List TableFile) (made : List BlobFile) → IsSteady maps s disk → IsBelow from s.holding.live.version
    → AreBetween from next tables made → AreFresh s.holding tables made

-- A compaction that is done may be installed: the manifest restores what is held then, and its files are there and synced.
abbrev pub DoneCompactionsInstall : Type 0
DoneCompactionsInstall = (maps : Maps) (s : Steady) (disk : Disk) (plan : CompactionPlan) (tables : List TableFile) (made : List BlobFile) (e : Edit) (next : ℕ) → IsSteady maps s disk
    → IsDone plan s.holding tables made e next disk → Installs maps s (with_next next e) (compacted_by e next tables made s.holding) s.before s.below disk

-- Behind it all numbers of the version are below the next one,
abbrev pub CompactedStayBelow : Type 0
CompactedStayBelow = (maps : Maps) (s : Steady) (disk : Disk) (plan : CompactionPlan) (tables : List TableFile) (made : List BlobFile) (e : Edit) (from next : ℕ) → IsSteady maps s disk
    → Compacts plan s.holding tables made e → IsBelow from s.holding.live.version → from ≤ next → AreBetween from next tables made
    → IsBelow next (compacted_by e next tables made s.holding).live.version

-- and each snapshot of its plan sees what it saw.
abbrev pub SnapshotsSeeTheSame : Type 0
SnapshotsSeeTheSame = (maps : Maps) (s : Steady) (disk : Disk) (plan : CompactionPlan) (tables : List TableFile) (made : List BlobFile) (e : Edit) (next : ℕ) (found : List Revision) → IsSteady maps s disk
    → IsSound s.holding found (maps (accepted s)) → (c : Compacts plan s.holding tables made e) → Keeps plan c.ins s.holding (compacted_by e next tables made s.holding) found (maps (accepted s))
