-- What a flush leaves.
use Rattle.std.specs.Prelude.{◌≡◌, ◌⊎◌, ℕ, ◌-◌, ◌^◌, ◌<◌, ◌≤◌, false, List}
use Rattle.std.specs.List.{AllByRecursion, range_with_len}
use Rattle.bl_site.specs.Causes.{Rose}
use Rattle.bl_site.specs.Disk.{Disk, folder_of}
use Rattle.bl_site.specs.declared.site.Site.{Ghosts}
use Rattle.bl_names.specs.declared.name.FileName.TheVariants.{Table, Blob}
use Rattle.bl_names.specs.Names.{name_of}
use Rattle.bl_entry.specs.declared.key.Entry.{Entry}
use Rattle.bl_edit.specs.Options.{Values}
use Rattle.bl_edit.specs.declared.edit.Edit.{Edit}
use Rattle.bl_out.specs.Flushes.{Flushed, HasFlush, IsFlush, job_edit}
use Rattle.bl_out.specs.Reads.{IsSynced}
use Rattle.bl_site.specs.Quiet.{TellsNothing}
use Rattle.bl_out.specs.Held.{HoldsOut}
use Rattle.bl_out.specs.Made.{IsMade}
use Rattle.bl_out.specs.Outputs.{Out}
use Rattle.bl_out.specs.Quiet.{TouchesOnly}
use Rattle.bl_out.specs.States.{AreThere, IsOut, State, names_of}
use Rattle.bl_out.specs.declared.error.JobErr.{JobErr}
use Rattle.bl_out.specs.declared.error.JobErr.TheVariants.{Full, OutOfMemory}

-- The edit is that of a flush of this memory, whose files are in the folder, as they read, and synced; their numbers are from one on up to below another.
pub record Flushes (options : Values) (from next : ℕ) (snapshots : List ℕ) (memory : List Entry) (disk : Disk) (e : Edit) : Type 0 where
  pub files : Flushed
  pub edit : e ≡ job_edit files
  pub flush : IsFlush options.min_blob_size from snapshots memory files
  pub has : HasFlush (folder_of disk) files
  pub tables : AllByRecursion (λ t. (t.meta.number < next) × IsSynced disk (name_of (Table t.meta.number))) files.tables
  pub blobs : AllByRecursion (λ b. (b.named.number < next) × IsSynced disk (name_of (Blob b.named.number))) files.blobs

-- After a refusal numbers were drawn for some files of the flush. The folder was asked, or no number was left, or memory ran out and nothing has changed. At `Full` all numbers are drawn, and the flush makes more files.
pub record RefusesFlush {S : Type 0} (g : Ghosts S) (e : JobErr) (wanted next_old next_new : ℕ) (old new : S) : Type 0 where
  pub upwards : next_old ≤ next_new
  pub within : next_new ≤ wanted
  pub asked : Rose (g.changes old) (g.changes new) ⊎ ((e ≡ Full (10 ^ 15)) ⊎ ((e ≡ OutOfMemory) × (next_new ≡ next_old) × (new ≡ old)))
  pub full : e ≡ Full (10 ^ 15) → (next_new ≡ 10 ^ 15) × (10 ^ 15 < wanted)

-- ---- on the way

-- The output is this one, and no call of it has failed; its numbers are all those from one on up to below the next one; its files are there and hold what was written; since the start no other file has changed, nothing was told, no name call came into doubt, and the folder was asked or all is as it was.
pub record IsAt {S : Type 0} (g : Ghosts S) (o : Out) (from next : ℕ) (s : State) (start site : S) : Type 0 where
  pub out : IsOut o s
  pub made : IsMade from next o
  pub above : from ≤ next
  pub drawn : o.drawn ≡ range_with_len from (next - from)
  pub usable : s.failed ≡ false
  pub holds : g.shows → HoldsOut (g.disk site) o
  pub there : g.shows → AreThere (g.disk site) s
  pub certain : g.shows → g.certain start → g.certain site
  pub touches : TouchesOnly g (names_of (range_with_len from (next - from))) start site
  pub tells_nothing : TellsNothing g start site
  pub asked : Rose (g.changes start) (g.changes site) ⊎ ((site ≡ start) × (next ≡ from))
