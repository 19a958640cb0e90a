-- A whole version as one edit.
use Rattle.std.specs.Prelude.{◌==◌, ◌&&◌, not, Bool, true, map, filter, Some, []}
use Rattle.bl_edit.specs.declared.edit.BlobAddition.{BlobAddition}
use Rattle.bl_edit.specs.declared.edit.BlobGarbage.{BlobGarbage}
use Rattle.bl_edit.specs.declared.edit.Edit.{Edit}
use Rattle.bl_build.specs.declared.meta.BlobMeta.{BlobMeta}
use Rattle.bl_build.specs.declared.meta.Standing.{Standing}
use Rattle.bl_build.specs.Listing.{Listing}

abbrev pub addition_of : BlobMeta → BlobAddition
addition_of b = record { number = b.number; count = b.total.count; bytes = b.total.bytes }

abbrev pub garbage_of : BlobMeta → BlobGarbage
garbage_of b = record { number = b.number; count = b.garbage.count; bytes = b.garbage.bytes }

abbrev pub has_garbage : BlobMeta → Bool
has_garbage b = not ((b.garbage.count == 0) && (b.garbage.bytes == 0))

-- the tables by level and number, the blob files by number, and garbage of those alone that have some
abbrev pub snapshot : Listing → Standing → Edit
snapshot v s = record {
  comparator = true;
  log_number = Some s.log_number;
  next_file = Some s.next_file;
  last_sequence = Some s.last_sequence;
  options = Some s.options;
  deleted = [];
  added = v.tables;
  blobs = map addition_of v.blobs;
  garbage = map garbage_of (filter has_garbage v.blobs);
}
