-- What is held after an edit: the version's step, on tables with their entries and blob files with their records.
use Rattle.std.specs.Prelude.{◌==◌, not, ℕ, List, [], ◌∷◌, map, filter, unwrap_or, if◌then◌else◌}
use Rattle.std.specs.List.{list_any}
use Rattle.bl_edit.specs.declared.edit.DeletedTable.{DeletedTable}
use Rattle.bl_edit.specs.declared.edit.NewTable.{NewTable}
use Rattle.bl_edit.specs.declared.edit.BlobGarbage.{BlobGarbage}
use Rattle.bl_edit.specs.declared.edit.Edit.{Edit}
use Rattle.bl_build.specs.declared.meta.BlobMeta.{BlobMeta}
use Rattle.bl_build.specs.Listing.{all_placed, table_rank}
use Rattle.bl_build.specs.Versions.{add_garbage, is_deleted, is_spent, linked_to}
use Rattle.bl_folder.specs.Flushes.{blob_metas, metas}
use Rattle.bl_folder.specs.Holding.{BlobFile, Holding}
use Rattle.bl_out.specs.Tables.{TableFile}

abbrev pub file_rank : TableFile → ℕ
file_rank t = table_rank t.meta

abbrev pub number_of : BlobFile → ℕ
number_of b = b.meta.number

abbrev pub files_without : List DeletedTable → List TableFile → List TableFile
files_without ds tables = filter (λ t. not (list_any (λ d. is_deleted d t.meta) ds)) tables

-- the tables after an edit, with these new ones
abbrev pub tables_after : Edit → List TableFile → List TableFile → List TableFile
tables_after e new tables = all_placed file_rank new (files_without e.deleted tables)

abbrev pub with_meta : (BlobMeta → BlobMeta) → BlobFile → BlobFile
with_meta f b = record { meta = f b.meta; records = b.records }

abbrev pub with_garbage_on : List BlobGarbage → List BlobFile → List BlobFile
with_garbage_on [] blobs = blobs
with_garbage_on (g ∷ more) blobs = with_garbage_on more (map (with_meta (add_garbage g)) blobs)

abbrev pub with_links_on : List NewTable → List BlobFile → List BlobFile
with_links_on tables blobs = map (with_meta (linked_to tables)) blobs

abbrev pub from_linked_on : List BlobFile → List BlobFile
from_linked_on [] = []
from_linked_on (b ∷ bs) = if b.meta.linked == 0 then from_linked_on bs else b ∷ bs

abbrev pub needed_on : List BlobFile → List BlobFile
needed_on blobs = filter (λ b. not (is_spent b.meta)) (from_linked_on blobs)

-- all blob files with their accounts, before any is left out
abbrev pub blobs_with : Edit → List NewTable → List BlobFile → List BlobFile → List BlobFile
blobs_with e tables made blobs = with_links_on tables (with_garbage_on e.garbage (all_placed number_of made blobs))

-- the blob files after an edit, with these new ones
abbrev pub blobs_after : Edit → List NewTable → List BlobFile → List BlobFile → List BlobFile
blobs_after e tables made blobs = needed_on (blobs_with e tables made blobs)

-- what is held once a compaction's edit is installed; the batches stay
abbrev pub compacted : Edit → List TableFile → List BlobFile → Holding → Holding
compacted e new made h = record {
  live = record {
    version = record { tables = metas (tables_after e new h.tables); blobs = blob_metas (blobs_after e (metas (tables_after e new h.tables)) made h.blobs) };
    standing = record h.live.standing { next_file = unwrap_or e.next_file h.live.standing.next_file };
  };
  tables = tables_after e new h.tables;
  blobs = blobs_after e (metas (tables_after e new h.tables)) made h.blobs;
  batches = h.batches;
  last = h.last;
}
