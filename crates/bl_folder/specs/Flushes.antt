-- What stands once the first batches of a folder are flushed and the edit of the flush is installed.
use Rattle.std.specs.Prelude.{◌≡◌, ◌↔◌, ◌⊎◌, ℕ, ◌+◌, ◌<◌, ◌≤◌, List, [], ◌∷◌, ◌++◌, length, map, take, drop, Contains, Some}
use Rattle.std.specs.List.{AllByRecursion}
use Rattle.bl_entry.specs.declared.key.Entry.{Entry}
use Rattle.bl_entry.specs.Batches.{Batch}
use Rattle.bl_entry.specs.Entries.{IsAscending, IsProper}
use Rattle.bl_entry.specs.Latest.{revision_of}
use Rattle.bl_entry.specs.Revisions.{Map, Revision, revisions_of, value_at}
use Rattle.bl_edit.specs.declared.edit.Edit.{Edit}
use Rattle.bl_edit.specs.declared.edit.NewTable.{NewTable}
use Rattle.bl_build.specs.declared.meta.BlobMeta.{BlobMeta}
use Rattle.bl_build.specs.Listing.{Listing, all_placed, table_rank}
use Rattle.bl_build.specs.Versions.{IsVersion, after, linked_to, new_blob, with_tables}
use Rattle.bl_out.specs.Tables.{TableFile}
use Rattle.bl_out.specs.Written.{IsPlainKind}
use Rattle.bl_out.specs.Flushes.{Flushed, IsFlush, NewBlob, job_edit}
use Rattle.bl_folder.specs.Holding.{BlobFile, Holding}
use Rattle.bl_folder.specs.Stands.{IsSound}
use Rattle.bl_folder.specs.Fronts.{last_after}

-- what a version says of tables and of blob files
abbrev pub metas : List TableFile → List NewTable
metas tables = map (λ t. t.meta) tables

abbrev pub blob_metas : List BlobFile → List BlobMeta
blob_metas blobs = map (λ b. b.meta) blobs

-- ---- before the flush

-- Puts and deletions in key order: exactly the operations of these batches, each with its sequence.
pub record IsMemoryOf (batches : List Batch) (memory : List Entry) : Type 0 where
  pub ascending : IsAscending memory
  pub proper : AllByRecursion IsProper memory
  pub plain : AllByRecursion (λ e. IsPlainKind e.key.kind) memory
  pub same : (r : Revision) → Contains (map revision_of memory) r ↔ Contains (revisions_of batches) r

-- each batch begins behind the last sequence
abbrev pub Follow : ℕ → List Batch → Type 0
Follow before [] = Unit {0}
Follow before (b ∷ bs) = (b.first ≡ before + 1) × Follow (before + length b.operations) bs

-- The tables and blob files that are held are those of the version, the batches follow each other behind the version's last sequence, and the last sequence is theirs.
pub record IsWhole (h : Holding) : Type 0 where
  pub version : IsVersion h.live.version
  pub tables : metas h.tables ≡ h.live.version.tables
  pub blobs : blob_metas h.blobs ≡ h.live.version.blobs
  pub follow : Follow h.live.standing.last_sequence h.batches
  pub last : h.last ≡ last_after h.live.standing.last_sequence h.batches

-- no file of a version has this number or one above it
pub record IsBelow (from : ℕ) (v : Listing) : Type 0 where
  pub tables : AllByRecursion (λ t. t.number < from) v.tables
  pub blobs : AllByRecursion (λ b. b.number < from) v.blobs

-- The first so many batches are in a memory, of which a flush made these files, with numbers above those of the version.
pub record IsFlushOf (h : Holding) (count from : ℕ) (snapshots : List ℕ) (memory : List Entry) (f : Flushed) : Type 0 where
  pub within : count ≤ length h.batches
  pub below : IsBelow from h.live.version
  pub memory_of : IsMemoryOf (take count h.batches) memory
  pub flush : IsFlush h.live.standing.options.min_blob_size from snapshots memory f

-- ---- behind the flush

-- the last sequence of the first batches
abbrev pub flushed_to : ℕ → Holding → ℕ
flushed_to count h = last_after h.live.standing.last_sequence (take count h.batches)

-- The edit that is installed is that of the job, with the number of the first log that is still needed, the next file number, and the last sequence that was flushed.
abbrev pub installed_edit : ℕ → ℕ → ℕ → Flushed → Edit
installed_edit log next last f = record (job_edit f) { log_number = Some log; next_file = Some next; last_sequence = Some last }

abbrev pub edit_for : Holding → ℕ → ℕ → ℕ → Flushed → Edit
edit_for h count log next f = installed_edit log next (flushed_to count h) f

-- a new blob file as it stands in a version with these tables
abbrev pub linked_file : List NewTable → NewBlob → BlobFile
linked_file tables b = record { meta = linked_to tables (new_blob b.named); records = b.records }

-- what is held once the edit of a flush of the first batches is installed
abbrev pub installed : Holding → ℕ → ℕ → ℕ → Flushed → Holding
installed h count log next f = record {
  live = record {
    version = after h.live.version (edit_for h count log next f);
    standing = record h.live.standing { log_number = log; next_file = next; last_sequence = flushed_to count h };
  };
  tables = all_placed (λ t. table_rank t.meta) f.tables h.tables;
  blobs = h.blobs ++ map (linked_file (with_tables (metas f.tables) h.live.version.tables)) f.blobs;
  batches = drop count h.batches;
  last = h.last;
}

-- The tables and blob files that are held are those of the version, and of its blob files the old ones stay first, each with its account.
pub record KeepsFiles (h next : Holding) : Type 0 where
  pub tables : metas next.tables ≡ next.live.version.tables
  pub blobs : blob_metas next.blobs ≡ next.live.version.blobs
  pub kept : (more : List BlobMeta) × (next.live.version.blobs ≡ h.live.version.blobs ++ more)

-- a sequence at which readers may ask: that of one of the snapshots, or one from the last flushed one on
abbrev pub IsKeptAt : List ℕ → ℕ → ℕ → Type 0
IsKeptAt snapshots last s = Contains snapshots s ⊎ (last ≤ s)

-- The holding is sound for this map, and at each such sequence each key has there the value that it had.
pub record KeepsMaps (snapshots : List ℕ) (last : ℕ) (found : List Revision) (h : Holding) (m : Map) : Type 0 where
  pub found_now : List Revision
  pub sound : IsSound h found_now m
  pub same : (s : ℕ) (key : List ℕ) → IsKeptAt snapshots last s → value_at found_now s key ≡ value_at found s key
