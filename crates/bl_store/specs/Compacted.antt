-- A compaction that is done on a steady disk, and is to be installed.
use Rattle.std.specs.Prelude.{◌≡◌, ◌≢◌, ℕ, ◌<◌, ◌≤◌, ◌^◌, ◌⊎◌, Bool, List, Some}
use Rattle.std.specs.List.{AllByRecursion}
use Rattle.bl_site.specs.Disk.{Disk, written_of}
use Rattle.bl_names.specs.declared.name.FileName.TheVariants.{Table, Blob}
use Rattle.bl_edit.specs.Options.{Values}
use Rattle.bl_edit.specs.declared.edit.Edit.{Edit}
use Rattle.bl_build.specs.Listing.{Listing}
use Rattle.bl_build.specs.declared.plan.CompactionPlan.{CompactionPlan}
use Rattle.bl_out.specs.Tables.{TableFile, table_in}
use Rattle.bl_pick.specs.Picking.{due, full_plan}
use Rattle.bl_folder.specs.Holding.{BlobFile, Holding, IsSpelled, blob_in}
use Rattle.bl_folder.specs.Settled.{IsSynced}
use Rattle.bl_compacted.specs.Plans.{IsPlan}
use Rattle.bl_compacted.specs.Installing.{compacted}
use Rattle.bl_compacted.specs.Compacting.{Compacts}
use Rattle.bl_compacted.specs.Rewriting.{GivesOnlyLists}

-- a plan that is due of a version, or the one for all tables
abbrev pub MayBegin : Listing → CompactionPlan → Type 0
MayBegin v plan = ((options : Values) × (waiting : Bool) × (snapshots : List ℕ) × IsPlan (due v options waiting snapshots) plan) ⊎ ((snapshots : List ℕ) × (full_plan v snapshots ≡ Some plan))

-- the edit of a job, with the number that the next new file gets
abbrev pub with_next : ℕ → Edit → Edit
with_next next e = record e { next_file = Some next }

-- These tables and blob files are on the disk, as they are written, and synced.
pub record AreOut (tables : List TableFile) (made : List BlobFile) (disk : Disk) : Type 0 where
  pub tables_there : AllByRecursion (λ t. table_in (written_of disk) t.meta ≡ Some t) tables
  pub blobs_there : AllByRecursion (λ b. blob_in (written_of disk) b.meta ≡ Some b) made
  pub spelled : AllByRecursion (IsSpelled (written_of disk)) made
  pub tables_synced : AllByRecursion (λ t. IsSynced disk (Table t.meta.number)) tables
  pub blobs_synced : AllByRecursion (λ b. IsSynced disk (Blob b.meta.number)) made

-- A compaction of what is held is done: what it made is on the disk, and its edit has its lists alone.
pub record IsDone (plan : CompactionPlan) (h : Holding) (tables : List TableFile) (made : List BlobFile) (e : Edit) (next : ℕ) (disk : Disk) : Type 0 where
  pub compacts : Compacts plan h tables made e
  pub lists : GivesOnlyLists e
  pub next_fits : next ≤ 10 ^ 15
  pub out : AreOut tables made disk

-- what is held once its edit is installed, with the next file number
abbrev pub compacted_by : Edit → ℕ → List TableFile → List BlobFile → Holding → Holding
compacted_by e next tables made h = compacted (with_next next e) tables made h

-- the files have numbers from one on, and below another
pub record AreBetween (from next : ℕ) (new : List TableFile) (made : List BlobFile) : Type 0 where
  pub tables : AllByRecursion (λ t. (from ≤ t.meta.number) × (t.meta.number < next)) new
  pub blobs : AllByRecursion (λ b. (from ≤ b.meta.number) × (b.meta.number < next)) made

-- no file that is held has the number of one of these
pub record AreFresh (h : Holding) (new : List TableFile) (made : List BlobFile) : Type 0 where
  pub tables : AllByRecursion (λ t. AllByRecursion (λ u. u.meta.number ≢ t.meta.number) h.tables) new
  pub blobs : AllByRecursion (λ b. AllByRecursion (λ o. o.meta.number ≢ b.meta.number) h.blobs) made
