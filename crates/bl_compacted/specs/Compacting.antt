-- A compaction: what went in, what came out, and the edit that says so.
use Rattle.std.specs.Prelude.{◌≡◌, ◌↔◌, ℕ, ◌-◌, ◌≤◌, ◌<◌, true, List, map, Contains}
use Rattle.std.specs.List.{AllByRecursion, AllZip, list_any}
use Rattle.bl_edit.specs.declared.edit.BlobGarbage.{BlobGarbage}
use Rattle.bl_edit.specs.declared.edit.Edit.{Edit}
use Rattle.bl_entry.specs.declared.key.Entry.{Entry}
use Rattle.bl_entry.specs.Entries.{IsAscending}
use Rattle.bl_entry.specs.Kept.{kept}
use Rattle.bl_entry.specs.Revisions.{revisions_of}
use Rattle.bl_build.specs.Listing.{Ascends}
use Rattle.bl_build.specs.Versions.{IsVersion, is_deleted, new_blob}
use Rattle.bl_out.specs.References.{count_of, bytes_of}
use Rattle.bl_folder.specs.Holding.{BlobFile, Holding}
use Rattle.bl_out.specs.Tables.{TableFile, table_entries, IsAsNamed}
use Rattle.bl_compacted.specs.Shuffles.{Shuffled}
use Rattle.bl_compacted.specs.Plans.{IsClosed, inputs_of, is_input}
use Rattle.bl_build.specs.declared.plan.CompactionPlan.{CompactionPlan as Plan}
use Rattle.bl_folder.specs.Flushes.{metas, blob_metas}
use Rattle.bl_compacted.specs.Outputs.{AreMade, AreOutputs, HandsOn, IsRanged}

-- what became garbage in a blob file: the references that went in less those that came out
abbrev pub garbage_in : List Entry → List Entry → ℕ → BlobGarbage
garbage_in ins outs file = record { number = file; count = count_of file ins - count_of file outs; bytes = bytes_of file ins - bytes_of file outs }

-- The edit of a compaction: it deletes the inputs at their levels, adds the new tables and the new blob files, and has the garbage of each blob
-- file that an input names.
pub record IsEditOf (plan : Plan) (h : Holding) (ins : List Entry) (new : List TableFile) (made : List BlobFile) (e : Edit) : Type 0 where
  pub deletes : AllByRecursion (λ t. list_any (λ d. is_deleted d t) e.deleted ≡ is_input plan t) h.live.version.tables
  pub known : AllByRecursion (λ d. list_any (is_deleted d) h.live.version.tables ≡ true) e.deleted
  pub adds : e.added ≡ metas new
  pub additions : map new_blob e.blobs ≡ blob_metas made
  pub files : List ℕ
  pub ascend : Ascends (λ n. n) files
  pub named : (n : ℕ) → Contains files n ↔ (1 ≤ count_of n ins)
  pub garbage : e.garbage ≡ map (garbage_in ins (table_entries new)) files

-- From what is held, by this plan, these tables and blob files and this edit.
pub record Compacts (plan : Plan) (h : Holding) (new : List TableFile) (made : List BlobFile) (e : Edit) : Type 0 where
  pub closed : IsClosed plan h.tables
  -- the entries of the inputs in one list, in the order of keys
  pub ins : List Entry
  pub merged : Shuffled (table_entries (inputs_of plan h.tables)) ins
  pub ascend : IsAscending ins
  -- those that are kept come out
  pub handed : AllZip (HandsOn plan.cutoff h.live.standing.options.min_blob_size h.blobs made) (kept plan.snapshots plan.bottom ins) (table_entries new)
  pub outputs : AreOutputs plan.out_level h.tables new
  pub named : AllByRecursion IsAsNamed new
  pub blobs : AreMade h.blobs (table_entries new) made
  pub edit : IsEditOf plan h ins new made e

-- What is so of what a folder holds, beside that it is sound: its tables and blob files are those of the version, which is one, entries are within their
-- tables' ranges, the batches stand behind the last sequence of the manifest, and the last sequence of all is not below it.
pub record IsHeld (h : Holding) : Type 0 where
  pub tables : metas h.tables ≡ h.live.version.tables
  pub blobs : blob_metas h.blobs ≡ h.live.version.blobs
  pub version : IsVersion h.live.version
  pub ranged : AllByRecursion (λ t. IsRanged t) h.tables
  pub ahead : AllByRecursion (λ r. h.live.standing.last_sequence < r.seq) (revisions_of h.batches)
  pub last : h.live.standing.last_sequence ≤ h.last
