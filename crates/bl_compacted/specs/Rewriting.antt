-- What a compaction does with its inputs alone, whatever else a version has; and what is to hold where its edit is installed.
use Rattle.std.specs.Prelude.{◌≡◌, ◌≢◌, ◌⊎◌, ◌↔◌, ℕ, ◌<◌, ◌≤◌, ◌==◌, Bool, false, List, map, filter, flat_map, length, Contains, None, IfSome}
use Rattle.std.specs.List.{AllByRecursion, AllZip, list_any}
use Rattle.bl_blob.specs.BlobFile.{blobs_of, totals_of}
use Rattle.bl_blob.specs.declared.blob.BlobAt.{BlobAt}
use Rattle.bl_edit.specs.declared.edit.DeletedTable.{DeletedTable}
use Rattle.bl_edit.specs.declared.edit.Edit.{Edit}
use Rattle.bl_entry.specs.declared.key.Entry.{Entry}
use Rattle.bl_entry.specs.Entries.{IsAscending}
use Rattle.bl_entry.specs.Kept.{kept}
use Rattle.bl_build.specs.Listing.{Ascends}
use Rattle.bl_build.specs.Versions.{new_blob}
use Rattle.bl_out.specs.References.{Reference, index_of, references, count_of}
use Rattle.bl_folder.specs.Entries.{records_by}
use Rattle.bl_folder.specs.Holding.{BlobFile, Holding}
use Rattle.bl_out.specs.Tables.{TableFile, table_entries, IsAsNamed}
use Rattle.bl_out.specs.Values.{revision_of}
use Rattle.bl_compacted.specs.Pairs.{Pairwise}
use Rattle.bl_compacted.specs.Shuffles.{Shuffled}
use Rattle.bl_compacted.specs.Plans.{IsClosed, inputs_of}
use Rattle.bl_build.specs.declared.plan.CompactionPlan.{CompactionPlan as Plan}
use Rattle.bl_folder.specs.Flushes.{blob_metas, metas}
use Rattle.bl_compacted.specs.Outputs.{EndsBefore, IsFrom, IsRanged, IsRewritten, numbers}
use Rattle.bl_compacted.specs.Compacting.{garbage_in}

-- a reference to a file below the cutoff
abbrev pub IsBelow : ℕ → Entry → Type 0
IsBelow cutoff e = IfSome (index_of e) (λ index. index.file < cutoff)

-- An entry comes out as it is, unless its value stands in a file below the cutoff; then its value was written anew.
abbrev pub ComesOut : ℕ → ℕ → List BlobFile → List BlobFile → Entry → Entry → Type 0
ComesOut cutoff threshold blobs made e o = ((o ≡ e) × IsFrom cutoff e) ⊎ (IsBelow cutoff e × IsRewritten threshold blobs made e o)

-- the records of blob files, one after the other, as what refers to them
abbrev pub reference_to : BlobFile → BlobAt → Reference
reference_to b r = record { key = r.key; index = record { file = b.meta.number; offset = r.offset; size = length r.value } }

abbrev pub written : List BlobFile → List Reference
written made = flat_map (λ b. map (reference_to b) (blobs_of b.records)) made

abbrev pub is_made : List BlobFile → Reference → Bool
is_made made r = list_any (λ n. n == r.index.file) (numbers made)

abbrev pub deletion_of : TableFile → DeletedTable
deletion_of t = record { level = t.meta.level; number = t.meta.number }

-- beside its lists the edit gives nothing
pub record GivesOnlyLists (e : Edit) : Type 0 where
  pub comparator : e.comparator ≡ false
  pub log_number : e.log_number ≡ None
  pub next_file : e.next_file ≡ None
  pub last_sequence : e.last_sequence ≡ None
  pub options : e.options ≡ None

-- From these inputs, and the blob files that their entries name, by this plan.
pub record Rewrites (plan : Plan) (threshold : ℕ) (inputs : List TableFile) (blobs : List BlobFile) (new : List TableFile) (made : List BlobFile) (e : Edit) : Type 0 where
  -- the entries of the inputs in one list, in the order of keys; those that are kept come out
  pub ins : List Entry
  pub merged : Shuffled (table_entries inputs) ins
  pub ascend : IsAscending ins
  pub out : AllZip (ComesOut plan.cutoff threshold blobs made) (kept plan.snapshots plan.bottom ins) (table_entries new)
  -- the new tables: in the output level, as they are named, one behind the other, each with a number of its own
  pub levels : AllByRecursion (λ t. t.meta.level ≡ plan.out_level) new
  pub named : AllByRecursion IsAsNamed new
  pub ranged : AllByRecursion (λ t. IsRanged t) new
  pub behind : Pairwise EndsBefore new
  pub tables_once : Pairwise (λ t u. t.meta.number ≢ u.meta.number) new
  -- the new blob files: each with a number of its own, and their records are the values written anew, in their order
  pub blobs_once : Pairwise (λ a b. a.meta.number ≢ b.meta.number) made
  pub totals : AllByRecursion (λ b. totals_of b.records ≡ b.meta.total) made
  pub records : filter (is_made made) (references (table_entries new)) ≡ written made
  -- the edit: it deletes the inputs, adds what is new, and has the garbage of each blob file that an input names
  pub deleted : Shuffled (map deletion_of inputs) e.deleted
  pub deleted_ascend : Ascends (λ d. d.number) e.deleted
  pub added : e.added ≡ metas new
  pub additions : map new_blob e.blobs ≡ blob_metas made
  pub files : List ℕ
  pub files_ascend : Ascends (λ n. n) files
  pub files_named : (n : ℕ) → Contains files n ↔ (1 ≤ count_of n ins)
  pub garbage : e.garbage ≡ map (garbage_in ins (table_entries new)) files
  pub alone : GivesOnlyLists e

-- Where it is installed: the plan may be carried out there, its inputs are as they were, each of their entries reads as it did, and the numbers are new.
pub record MayInstall (plan : Plan) (h : Holding) (inputs : List TableFile) (blobs : List BlobFile) (new : List TableFile) (made : List BlobFile) : Type 0 where
  pub closed : IsClosed plan h.tables
  pub inputs_are : Shuffled (inputs_of plan h.tables) inputs
  pub reads : AllByRecursion (λ e. revision_of (records_by blobs) e ≡ revision_of (records_by h.blobs) e) (table_entries inputs)
  pub tables_fresh : AllByRecursion (λ t. AllByRecursion (λ u. u.meta.number ≢ t.meta.number) h.tables) new
  pub blobs_fresh : AllByRecursion (λ b. AllByRecursion (λ o. o.meta.number ≢ b.meta.number) h.blobs) made
